-- What is shown is the output for the filter's text.
use Rattle.xpush.proofs.Answering.{shows_filter, shows_refusal}
use Rattle.xpush.proofs.showing.answer_to.Goals as goal

pub returns-in-Ok-clause-out : goal.returns-in-Ok-clause-out
returns-in-Ok-clause-out c = shows_filter _ _ c.printed.result c.in-Ok.ensures c.printed.ensures.out

pub returns-in-Err-clause-out : goal.returns-in-Err-clause-out
returns-in-Err-clause-out c = shows_refusal _ c.in-Err.fault c.refused.result c.in-Err.ensures c.refused.ensures.out
