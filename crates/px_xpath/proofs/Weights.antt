-- How much of a filter is left: a measure that falls at each of its parts.
use Rattle.std.proofs.Common.{◌≡◌, ℕ, ◌+◌, List, [], ◌∷◌, length, refl, arith}
use Rattle.px_xpath.specs.declared.filter.Cond.{Cond}
use Rattle.px_xpath.specs.Histories.{count_of}
use Rattle.px_xpath.specs.Views.{conditions}
use Rattle.px_xpath.specs.Filters.{Way, Arrived, StepThen, Condition, Selects, Compares, EachOf, SomeOf, Fails, Conditions, NoConditions, CondThen}

abbrev mutual
  pub way_weight : Way → ℕ
  way_weight Arrived = 0
  way_weight (StepThen axis _ conds onward) = conditions_weight conds + way_weight onward + 2

  pub condition_weight : Condition → ℕ
  condition_weight (Selects way) = way_weight way + 1
  condition_weight (Compares way r value) = way_weight way + 2
  condition_weight (EachOf conds) = conditions_weight conds + 1
  condition_weight (SomeOf conds) = conditions_weight conds + 1
  condition_weight (Fails condition) = condition_weight condition + 2

  pub conditions_weight : Conditions → ℕ
  conditions_weight NoConditions = 0
  conditions_weight (CondThen condition rest) = condition_weight condition + conditions_weight rest + 2

pub conditions_counted : (conds : List Cond) → count_of (conditions conds) ≡ length conds
conditions_counted [] = refl
conditions_counted (cond ∷ rest) = omega (arith, conditions_counted rest)
