-- Which filters are the same: a test, part by part, whatever they mean.
use Rattle.std.specs.Prelude.{Bool, true, false, ◌&&◌}
use Rattle.px_xpath.specs.declared.filter.Axis.{Axis}
use Rattle.px_xpath.specs.declared.filter.Test.{Test}
use Rattle.px_xpath.specs.declared.filter.Relation.{Relation}
use Rattle.px_xpath.specs.declared.filter.Value.{Value}
use Rattle.px_xpath.specs.contracts.filter.AxisPartialEq.TheImpl as axes
use Rattle.px_xpath.specs.contracts.filter.TestPartialEq.TheImpl as tests
use Rattle.px_xpath.specs.contracts.filter.RelationPartialEq.TheImpl as relations
use Rattle.px_xpath.specs.contracts.filter.ValuePartialEq.TheImpl as values
use Rattle.px_xpath.specs.Filters.{Way, Arrived, StepThen, Condition, Selects, Compares, EachOf, SomeOf, Fails, Conditions, NoConditions, CondThen}

-- the parts are compared by their `==`
abbrev pub same_axis : Axis → Axis → Bool
same_axis = (axes.ghosts).eq

abbrev pub same_test : Test → Test → Bool
same_test = (tests.ghosts).eq

abbrev pub same_relation : Relation → Relation → Bool
same_relation = (relations.ghosts).eq

abbrev pub same_value : Value → Value → Bool
same_value = (values.ghosts).eq

abbrev mutual
  pub same_way : Way → Way → Bool
  same_way Arrived Arrived = true
  same_way (StepThen axis test conds onward) (StepThen a t cs o) = same_axis axis a && same_test test t && same_conditions conds cs && same_way onward o
  same_way _ _ = false

  pub same_conditions : Conditions → Conditions → Bool
  same_conditions NoConditions NoConditions = true
  same_conditions (CondThen cond rest) (CondThen c r) = same_condition cond c && same_conditions rest r
  same_conditions _ _ = false

  pub same_condition : Condition → Condition → Bool
  same_condition (Selects way) (Selects w) = same_way way w
  same_condition (Compares way relation value) (Compares w r v) = same_relation relation r && same_value value v && same_way way w
  same_condition (EachOf conds) (EachOf cs) = same_conditions conds cs
  same_condition (SomeOf conds) (SomeOf cs) = same_conditions conds cs
  same_condition (Fails cond) (Fails c) = same_condition cond c
  same_condition _ _ = false
