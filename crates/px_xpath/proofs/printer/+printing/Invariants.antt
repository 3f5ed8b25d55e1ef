use Rattle.std.proofs.Common.{◌+◌}
use Rattle.px_xpath.specs.Views.{condition, conditions, ways}
use Rattle.px_xpath.proofs.Weights.{way_weight, condition_weight, conditions_weight}
use Rattle.px_xpath.proofs.printer.+printing.Given as goal

abbrev pub decreases-write_steps : goal.decreases-write_steps
decreases-write_steps l = way_weight (ways l.steps.now)

abbrev pub decreases-write_path : goal.decreases-write_path
decreases-write_path l = way_weight (ways l.steps.now)

abbrev pub decreases-write_step : goal.decreases-write_step
decreases-write_step l = conditions_weight (conditions l.step.now.conds) + 1

abbrev pub decreases-write_preds : goal.decreases-write_preds
decreases-write_preds l = conditions_weight (conditions l.conds.now)

abbrev pub decreases-write_condition : goal.decreases-write_condition
decreases-write_condition l = condition_weight (condition l.cond.now)

abbrev pub decreases-write_members : goal.decreases-write_members
decreases-write_members l = conditions_weight (conditions l.conds.now)

abbrev pub decreases-write_more : goal.decreases-write_more
decreases-write_more l = conditions_weight (conditions l.conds.now)

abbrev pub decreases-write_member : goal.decreases-write_member
decreases-write_member l = condition_weight (condition l.cond.now) + 1

abbrev pub decreases-write_compared : goal.decreases-write_compared
decreases-write_compared l = way_weight (ways l.steps.now) + 1

abbrev pub decreases-write_negation : goal.decreases-write_negation
decreases-write_negation l = condition_weight (condition l.cond.now) + 1
