use Rattle.std.proofs.Common.{◌+◌}
use Rattle.px_xpath.specs.Views.{condition, conditions, ways}
use Rattle.px_xpath.proofs.Weights.{way_weight, condition_weight, conditions_weight}
use Rattle.px_delta.proofs.same.+same.Given as goal

abbrev pub decreases-are_same_steps : goal.decreases-are_same_steps
decreases-are_same_steps l = way_weight (ways l.one.now)

abbrev pub decreases-is_same_step : goal.decreases-is_same_step
decreases-is_same_step l = conditions_weight (conditions l.one.now.conds) + 1

abbrev pub decreases-are_same_conditions : goal.decreases-are_same_conditions
decreases-are_same_conditions l = conditions_weight (conditions l.one.now)

abbrev pub decreases-is_same_condition : goal.decreases-is_same_condition
decreases-is_same_condition l = condition_weight (condition l.one.now)
