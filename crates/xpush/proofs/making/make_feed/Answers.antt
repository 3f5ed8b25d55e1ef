-- A feed, whole or cut short.
use Rattle.xpush.proofs.Lines.{cut_feed}
use Rattle.std.proofs.Common.{◌∙◌, List, ℕ, subst}
use Rattle.px_lines.specs.Fronts.{AddsFront}
use Rattle.xpush.proofs.making.make_feed.Goals as goal

pub returns-in-Ok-clause-front : goal.returns-in-Ok-clause-front
returns-in-Ok-clause-front g c = λ t left.
    let P : List ℕ → Type 0 = λ piece. AddsFront (g.K.Sink.held c.args.sink.now) piece (g.K.Sink.held c.write_answer.new.sink) in
    cut_feed _ _ _ left _ _ (subst P (c.as_slice.ensures.same ∙ c.in-Ok.ensures.feed) (c.write_answer.ensures.front t))
