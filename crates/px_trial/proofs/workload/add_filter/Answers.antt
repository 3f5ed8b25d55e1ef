-- The add may come.
use Rattle.px_workload.specs.declared.change.Change.TheVariants.{Add}
use Rattle.px_trial.proofs.Legal.{may_come, none_is}
use Rattle.px_trial.proofs.workload.add_filter.Goals as goal

pub append-requires-clause-legal : goal.append-requires-clause-legal
append-requires-clause-legal c = may_come _ _ (Add 0 c.args.filter) c.reserve.ensures.same (c.refusal.ensures.legal (none_is c.refusal.result c.is_some.ensures c.if-is_some.false))
