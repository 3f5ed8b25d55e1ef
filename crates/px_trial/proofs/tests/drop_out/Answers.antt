-- The drop is legal.
use Rattle.px_workload.specs.declared.change.Change.TheVariants.{Drop}
use Rattle.px_trial.proofs.Legal.{may_come, none_is}
use Rattle.px_trial.proofs.tests.drop_out.Goals as goal

pub append-requires-clause-legal : goal.append-requires-clause-legal
append-requires-clause-legal c = may_come _ _ (Drop 0 c.args.id) c.reserve.ensures.same (c.refusal.ensures.legal (none_is c.refusal.result c.is_some.ensures c.if-is_some.false))
