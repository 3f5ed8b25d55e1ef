use Rattle.px_xpath.specs.Views.{condition, conditions, ways}
use Rattle.px_xpath.proofs.Weights.{way_weight, condition_weight, conditions_weight}
use Rattle.px_xpath.proofs.sizes.+sizing.Given as goal

abbrev pub decreases-way_size : goal.decreases-way_size
decreases-way_size l = way_weight (ways l.steps.now)

abbrev pub decreases-conditions_size : goal.decreases-conditions_size
decreases-conditions_size l = conditions_weight (conditions l.conds.now)

abbrev pub decreases-condition_size : goal.decreases-condition_size
decreases-condition_size l = condition_weight (condition l.cond.now)
