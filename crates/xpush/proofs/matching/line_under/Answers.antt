-- The line says what the ids and the document's verdict say.
use Rattle.std.proofs.Common.{ap, Err}
use Rattle.xpush.proofs.Lines.{answer_line, stopped_line, stopped_by_source}
use Rattle.xpush.proofs.matching.line_under.Goals as goal

pub returns-in-Ok-clause-line : goal.returns-in-Ok-clause-line
returns-in-Ok-clause-line g c = answer_line _ _ _ _ _ _ c.in-Ok.ensures.ids c.as_slice.ensures.same c.answer.ensures

pub returns-in-Err-clause-line : goal.returns-in-Err-clause-line
returns-in-Err-clause-line g c =
    stopped_line _ _ _ c.in-Err.stop c.outcome.result c.outcome.ensures (λ fault e. c.in-Err.ensures.fault fault (ap Err e))

pub returns-in-Err-clause-not_at_fault : goal.returns-in-Err-clause-not_at_fault
returns-in-Err-clause-not_at_fault g c = λ e. c.in-Err.ensures.not_at_fault (ap Err (stopped_by_source c.in-Err.stop c.outcome.result c.outcome.ensures e))
