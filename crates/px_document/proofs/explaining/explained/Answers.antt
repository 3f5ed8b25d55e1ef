-- The tree is explained, or the reading was stopped.
use Rattle.std.proofs.Common.{Err, ap}
use Rattle.px_xpath.specs.Whole.{filter}
use Rattle.px_document.proofs.Found.{explained_finding, stopped_finding, stopped_by_source}
use Rattle.px_document.proofs.explaining.explained.Goals as goal

pub returns-in-Ok-clause-found : goal.returns-in-Ok-clause-found
returns-in-Ok-clause-found g c = explained_finding (filter c.args.filter.now) _ _ _ c.explained_tree.result c.in-Ok.ensures.tree c.explained_tree.ensures.found

pub returns-in-Ok-clause-failed : goal.returns-in-Ok-clause-failed
returns-in-Ok-clause-failed g c = λ e. absurd (c.explained_tree.ensures.not_read e)

pub returns-in-Err-clause-found : goal.returns-in-Err-clause-found
returns-in-Err-clause-found g c = stopped_finding (filter c.args.filter.now) _ _ c.in-Err.stop c.outcome.result c.outcome.ensures (λ fault e. c.in-Err.ensures.fault fault (ap Err e))

pub returns-in-Err-clause-failed : goal.returns-in-Err-clause-failed
returns-in-Err-clause-failed g c = λ e. c.in-Err.ensures.failed (ap Err (stopped_by_source c.in-Err.stop c.outcome.result c.outcome.ensures e))

pub returns-in-Ok-clause-not_at_fault : goal.returns-in-Ok-clause-not_at_fault
returns-in-Ok-clause-not_at_fault g c = λ e. absurd (c.explained_tree.ensures.not_read e)

pub returns-in-Err-clause-not_at_fault : goal.returns-in-Err-clause-not_at_fault
returns-in-Err-clause-not_at_fault g c = λ e. c.in-Err.ensures.not_at_fault (ap Err (stopped_by_source c.in-Err.stop c.outcome.result c.outcome.ensures e))
