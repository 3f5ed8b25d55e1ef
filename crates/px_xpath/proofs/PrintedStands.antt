-- The tokens of a printed filter write that filter.
use Rattle.std.proofs.Common.{ℕ, Bool, true, false, List, [], ◌∷◌, refl, subst}
use Rattle.px_xpath.specs.declared.filter.Axis.{Axis}
use Rattle.px_xpath.specs.declared.filter.Axis.TheVariants.{Child, Below}
use Rattle.px_xpath.specs.declared.filter.Test.{Test}
use Rattle.px_xpath.specs.declared.filter.Test.TheVariants.{Element, AnyElement, Attribute, AnyAttribute, Text}
use Rattle.px_xpath.specs.declared.filter.Relation.{Relation}
use Rattle.px_xpath.specs.declared.filter.Value.{Value}
use Rattle.px_xpath.specs.declared.filter.Value.TheVariants.{Number, Literal}
use Rattle.px_xpath.specs.declared.printer.Joint.TheVariants.{Both, Either}
use Rattle.px_xpath.specs.Filters.{Way, Arrived, StepThen, Condition, Selects, Compares, EachOf, SomeOf, Fails, Conditions, NoConditions, CondThen}
use Rattle.px_xpath.specs.Tokens.{Token, CloseSquare, Close, Related, Numeric}
use Rattle.px_xpath.specs.Grammar.{Stands, attribute, text, last_element, element, no_pred, pred, one_and, ors, last_or, more_ors, one_unary, ands, last_and, more_ands, negated, bracketed, selects, compares, plain, dotted, literal, number, negative, Steps, Preds, Or, Ors, And, Ands, Unary, Relative, Operand, Writes, separator}
use Rattle.px_text.specs.Numbers.{units_of}
use Rattle.px_xpath.proofs.PrintedNumbers.{printed_units, is_below_zero, printed_whole, printed_decimals}
use Rattle.px_xpath.proofs.PrintedTokens.{test_tokens, value_tokens, minus_if, axis_of, first_tokens, steps_tokens, path_tokens, preds_tokens, condition_tokens, members_tokens, more_tokens}
use Rattle.px_xpath.proofs.Writable.{IsGoodValue, HasSteps, HasOne, HasTwo, IsWritable, CanBeWritten, AreWritable, MayStand}

numeric_stands : (r : Relation) (is_negative : Bool) (whole fraction : List ℕ) (rest : List Token) →
    Stands (Related r ∷ minus_if is_negative (Numeric whole fraction ∷ rest)) (Operand r (Number (units_of is_negative whole fraction))) rest
numeric_stands r true whole fraction rest = negative
numeric_stands r false whole fraction rest = number

value_stands : (r : Relation) (v : Value) (rest : List Token) → IsGoodValue r v → Stands (Related r ∷ value_tokens v rest) (Operand r v) rest
value_stands r (Number units) rest h =
    subst (λ z. Stands (Related r ∷ value_tokens (Number units) rest) (Operand r (Number z)) rest) (printed_units units h)
    (numeric_stands r (is_below_zero units) (printed_whole units) (printed_decimals units) rest)
value_stands r (Literal bytes) rest h = literal h.0

-- the last step, and its conditions
last_stands : (axis : Axis) (t : Test) (conds : Conditions) (rest : List Token) → MayStand t conds Arrived →
    Stands (preds_tokens conds rest) (Preds conds) rest → Stands (test_tokens t (preds_tokens conds rest)) (Steps axis (StepThen axis t conds Arrived)) rest
last_stands axis (Element name) conds rest m p = last_element refl p
last_stands axis AnyElement conds rest m p = last_element refl p
last_stands axis (Attribute name) conds rest m p = rw m.0 (attribute refl)
last_stands axis AnyAttribute conds rest m p = rw m.0 (attribute refl)
last_stands axis Text conds rest m p = rw m.0 text

-- a step, its conditions, and the steps behind it
step_stands : (axis : Axis) (t : Test) (conds : Conditions) (next : Axis) (u : Test) (ds : Conditions) (way : Way) (us rest : List Token) →
    MayStand t conds (StepThen next u ds way) → Stands (preds_tokens conds (separator next ∷ us)) (Preds conds) (separator next ∷ us) →
    Stands us (Steps next (StepThen next u ds way)) rest →
    Stands (test_tokens t (preds_tokens conds (separator next ∷ us))) (Steps axis (StepThen axis t conds (StepThen next u ds way))) rest
step_stands axis (Element name) conds next u ds way us rest m p s = element next refl p s
step_stands axis AnyElement conds next u ds way us rest m p s = element next refl p s
step_stands axis (Attribute name) conds next u ds way us rest m p s = let e = m.1 in absurd (cc)
step_stands axis AnyAttribute conds next u ds way us rest m p s = let e = m.1 in absurd (cc)
step_stands axis Text conds next u ds way us rest m p s = let e = m.1 in absurd (cc)

mutual
  -- the steps of a way, behind the separator of the first
  way_stands : (way : Way) (rest : List Token) → HasSteps way → IsWritable way → Stands (first_tokens way rest) (Steps (axis_of way) way) rest
  way_stands Arrived rest s h = absurd s
  way_stands (StepThen axis t conds Arrived) rest s h = last_stands axis t conds rest h.1 (preds_stand conds rest h.2)
  way_stands (StepThen axis t conds (StepThen next u ds way)) rest s h =
      step_stands axis t conds next u ds way _ rest h.1 (preds_stand conds _ h.2) (way_stands (StepThen next u ds way) rest tt h.3)

  preds_stand : (conds : Conditions) (rest : List Token) → AreWritable conds → Stands (preds_tokens conds rest) (Preds conds) rest
  preds_stand NoConditions rest h = no_pred
  preds_stand (CondThen c cs) rest h = pred (or_stands c (CloseSquare ∷ preds_tokens cs rest) h.0) (preds_stand cs rest h.1)

  path_stands : (path : Way) (rest : List Token) → HasSteps path → IsWritable path → Stands (path_tokens path rest) (Relative path) rest
  path_stands Arrived rest s h = absurd s
  path_stands (StepThen Child t conds Arrived) rest s h = plain (last_stands Child t conds rest h.1 (preds_stand conds rest h.2))
  path_stands (StepThen Below t conds Arrived) rest s h = dotted Below (last_stands Below t conds rest h.1 (preds_stand conds rest h.2))
  path_stands (StepThen Child t conds (StepThen next u ds way)) rest s h =
      plain (step_stands Child t conds next u ds way _ rest h.1 (preds_stand conds _ h.2) (way_stands (StepThen next u ds way) rest tt h.3))
  path_stands (StepThen Below t conds (StepThen next u ds way)) rest s h =
      dotted Below (step_stands Below t conds next u ds way _ rest h.1 (preds_stand conds _ h.2) (way_stands (StepThen next u ds way) rest tt h.3))

  or_stands : (c : Condition) (rest : List Token) → CanBeWritten c → Stands (condition_tokens c rest) (Or c) rest
  or_stands (Selects path) rest h = one_and (one_unary (selects (path_stands path rest h.0 h.1)))
  or_stands (Compares path r v) rest h = one_and (one_unary (compares (path_stands path _ h.0 h.1) (value_stands r v rest h.2)))
  or_stands (EachOf cs) rest h = one_and (each_stands cs rest h.0 h.1)
  or_stands (SomeOf cs) rest h = some_stands cs rest h.0 h.1
  or_stands (Fails c) rest h = one_and (one_unary (negated (or_stands c (Close ∷ rest) h)))

  each_stands : (cs : Conditions) (rest : List Token) → HasTwo cs → AreWritable cs → Stands (members_tokens Both cs rest) (And (EachOf cs)) rest
  each_stands NoConditions rest two h = absurd two
  each_stands (CondThen c NoConditions) rest two h = absurd two
  each_stands (CondThen c (CondThen d cs)) rest two h =
      ands (unary_stands c (more_tokens Both (CondThen d cs) rest) h.0) (ands_stand (CondThen d cs) rest tt h.1)

  some_stands : (cs : Conditions) (rest : List Token) → HasTwo cs → AreWritable cs → Stands (members_tokens Either cs rest) (Or (SomeOf cs)) rest
  some_stands NoConditions rest two h = absurd two
  some_stands (CondThen c NoConditions) rest two h = absurd two
  some_stands (CondThen c (CondThen d cs)) rest two h =
      ors (and_stands c (more_tokens Either (CondThen d cs) rest) h.0) (ors_stand (CondThen d cs) rest tt h.1)

  ands_stand : (cs : Conditions) (rest : List Token) → HasOne cs → AreWritable cs → Stands (members_tokens Both cs rest) (Ands cs) rest
  ands_stand NoConditions rest one h = absurd one
  ands_stand (CondThen c NoConditions) rest one h = last_and (unary_stands c rest h.0)
  ands_stand (CondThen c (CondThen d cs)) rest one h =
      more_ands (unary_stands c (more_tokens Both (CondThen d cs) rest) h.0) (ands_stand (CondThen d cs) rest tt h.1)

  ors_stand : (cs : Conditions) (rest : List Token) → HasOne cs → AreWritable cs → Stands (members_tokens Either cs rest) (Ors cs) rest
  ors_stand NoConditions rest one h = absurd one
  ors_stand (CondThen c NoConditions) rest one h = last_or (and_stands c rest h.0)
  ors_stand (CondThen c (CondThen d cs)) rest one h =
      more_ors (and_stands c (more_tokens Either (CondThen d cs) rest) h.0) (ors_stand (CondThen d cs) rest tt h.1)

  -- a member of an And
  unary_stands : (c : Condition) (rest : List Token) → CanBeWritten c → Stands (members_tokens Both (CondThen c NoConditions) rest) (Unary c) rest
  unary_stands (Selects path) rest h = selects (path_stands path rest h.0 h.1)
  unary_stands (Compares path r v) rest h = compares (path_stands path _ h.0 h.1) (value_stands r v rest h.2)
  unary_stands (EachOf cs) rest h = bracketed (one_and (each_stands cs (Close ∷ rest) h.0 h.1))
  unary_stands (SomeOf cs) rest h = bracketed (some_stands cs (Close ∷ rest) h.0 h.1)
  unary_stands (Fails c) rest h = negated (or_stands c (Close ∷ rest) h)

  -- a member of an Or
  and_stands : (c : Condition) (rest : List Token) → CanBeWritten c → Stands (members_tokens Either (CondThen c NoConditions) rest) (And c) rest
  and_stands (Selects path) rest h = one_unary (selects (path_stands path rest h.0 h.1))
  and_stands (Compares path r v) rest h = one_unary (compares (path_stands path _ h.0 h.1) (value_stands r v rest h.2))
  and_stands (EachOf cs) rest h = each_stands cs rest h.0 h.1
  and_stands (SomeOf cs) rest h = one_unary (bracketed (some_stands cs (Close ∷ rest) h.0 h.1))
  and_stands (Fails c) rest h = one_unary (negated (or_stands c (Close ∷ rest) h))

-- the tokens of a printed filter write it
pub printed_writes : (way : Way) → HasSteps way → IsWritable way → Writes (steps_tokens way []) way
printed_writes Arrived s h = absurd s
printed_writes (StepThen axis t conds onward) s h = (axis, refl, way_stands (StepThen axis t conds onward) [] tt h)
