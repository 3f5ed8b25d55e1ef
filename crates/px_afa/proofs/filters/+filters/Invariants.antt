use Rattle.px_xpath.specs.Views.{condition, conditions, ways}
use Rattle.px_xpath.proofs.Weights.{way_weight, condition_weight, conditions_weight}
use Rattle.px_afa.proofs.filters.+filters.Given as goal

abbrev pub decreases-way : goal.decreases-way
decreases-way l = way_weight (ways l.steps.now)

abbrev pub decreases-condition_parts : goal.decreases-condition_parts
decreases-condition_parts l = conditions_weight (conditions l.conds.now)

abbrev pub decreases-condition_state : goal.decreases-condition_state
decreases-condition_state l = condition_weight (condition l.cond.now)
