-- What is shown, cut short.
use Rattle.xpush.proofs.Lines.{cut_shown}
use Rattle.xpush.proofs.showing.show_filter.Goals as goal

pub returns-in-Ok-clause-front : goal.returns-in-Ok-clause-front
returns-in-Ok-clause-front g c = λ t left. cut_shown _ c.in-Ok.answer.text left _ _ _ c.in-Ok.ensures.out (rw c.as_slice.ensures.same at (c.write_answer.ensures.front t))
