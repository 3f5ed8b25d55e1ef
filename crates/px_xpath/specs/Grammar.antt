-- The grammar of filters.
use Rattle.std.specs.Prelude.{◌≡◌, ℕ, Bool, true, false, List, [], ◌∷◌, Option, Some, None, IsTrue}
use Rattle.px_text.specs.Numbers.{units_of}
use Rattle.px_xpath.specs.declared.filter.Axis.{Axis}
use Rattle.px_xpath.specs.declared.filter.Axis.TheVariants.{Child, Below}
use Rattle.px_xpath.specs.declared.filter.Test.{Test}
use Rattle.px_xpath.specs.declared.filter.Test.TheVariants as test
use Rattle.px_xpath.specs.declared.filter.Relation.{Relation}
use Rattle.px_xpath.specs.declared.filter.Relation.TheVariants.{Equal, NotEqual}
use Rattle.px_xpath.specs.declared.filter.Value.{Value}
use Rattle.px_xpath.specs.declared.filter.Value.TheVariants.{Number, Literal}
use Rattle.px_xpath.specs.Filters.{Way, Arrived, StepThen, Condition, Selects, Compares, EachOf, SomeOf, Fails, Conditions, NoConditions, CondThen}
use Rattle.px_xpath.specs.Tokens.{Token, Slash, Slashes, OpenSquare, CloseSquare, Open, Close, At, Star, Dot, Minus, Related, Quoted, Numeric, NameTest, AndWord, OrWord, NotWord, TextWord}

-- what stands before a step of this axis
abbrev pub separator : Axis → Token
separator Child = Slash
separator Below = Slashes

-- the name tests of an element and of an attribute
abbrev pub element_test : Token → Option Test
element_test (NameTest name) = Some (test.Element name)
element_test Star = Some test.AnyElement
element_test _ = None

abbrev pub attribute_test : Token → Option Test
attribute_test (NameTest name) = Some (test.Attribute name)
attribute_test Star = Some test.AnyAttribute
attribute_test _ = None

abbrev pub is_equality : Relation → Bool
is_equality Equal = true
is_equality NotEqual = true
is_equality _ = false

-- what the rules below are about
pub data Phrase : Type 0 where
  -- steps, the first of which has this axis
  Steps : Axis → Way → Phrase
  -- conditions in square brackets
  Preds : Conditions → Phrase
  Or : Condition → Phrase
  -- one or more, with `or` between each two
  Ors : Conditions → Phrase
  And : Condition → Phrase
  Ands : Conditions → Phrase
  Unary : Condition → Phrase
  Relative : Way → Phrase
  Operand : Relation → Value → Phrase

-- From the first tokens to the second stands this phrase.
pub data Stands : List Token → Phrase → List Token → Type 0 where
  attribute : {t : Token} {rest : List Token} {axis : Axis} {test : Test} →
      attribute_test t ≡ Some test → Stands (At ∷ t ∷ rest) (Steps axis (StepThen axis test NoConditions Arrived)) rest
  text : {rest : List Token} {axis : Axis} → Stands (TextWord ∷ Open ∷ Close ∷ rest) (Steps axis (StepThen axis test.Text NoConditions Arrived)) rest
  last_element : {t : Token} {ts rest : List Token} {axis : Axis} {test : Test} {conditions : Conditions} →
      element_test t ≡ Some test → Stands ts (Preds conditions) rest →
      Stands (t ∷ ts) (Steps axis (StepThen axis test conditions Arrived)) rest
  element : {t : Token} {ts us rest : List Token} {axis : Axis} {test : Test} {conditions : Conditions} {onward : Way} (next : Axis) →
      element_test t ≡ Some test → Stands ts (Preds conditions) (separator next ∷ us) → Stands us (Steps next onward) rest →
      Stands (t ∷ ts) (Steps axis (StepThen axis test conditions onward)) rest
  no_pred : {rest : List Token} → Stands rest (Preds NoConditions) rest
  pred : {ts us rest : List Token} {c : Condition} {cs : Conditions} →
      Stands ts (Or c) (CloseSquare ∷ us) → Stands us (Preds cs) rest → Stands (OpenSquare ∷ ts) (Preds (CondThen c cs)) rest
  one_and : {ts rest : List Token} {c : Condition} → Stands ts (And c) rest → Stands ts (Or c) rest
  ors : {ts us rest : List Token} {c : Condition} {cs : Conditions} →
      Stands ts (And c) (OrWord ∷ us) → Stands us (Ors cs) rest → Stands ts (Or (SomeOf (CondThen c cs))) rest
  last_or : {ts rest : List Token} {c : Condition} → Stands ts (And c) rest → Stands ts (Ors (CondThen c NoConditions)) rest
  more_ors : {ts us rest : List Token} {c : Condition} {cs : Conditions} →
      Stands ts (And c) (OrWord ∷ us) → Stands us (Ors cs) rest → Stands ts (Ors (CondThen c cs)) rest
  one_unary : {ts rest : List Token} {c : Condition} → Stands ts (Unary c) rest → Stands ts (And c) rest
  ands : {ts us rest : List Token} {c : Condition} {cs : Conditions} →
      Stands ts (Unary c) (AndWord ∷ us) → Stands us (Ands cs) rest → Stands ts (And (EachOf (CondThen c cs))) rest
  last_and : {ts rest : List Token} {c : Condition} → Stands ts (Unary c) rest → Stands ts (Ands (CondThen c NoConditions)) rest
  more_ands : {ts us rest : List Token} {c : Condition} {cs : Conditions} →
      Stands ts (Unary c) (AndWord ∷ us) → Stands us (Ands cs) rest → Stands ts (Ands (CondThen c cs)) rest
  negated : {ts rest : List Token} {c : Condition} → Stands ts (Or c) (Close ∷ rest) → Stands (NotWord ∷ Open ∷ ts) (Unary (Fails c)) rest
  bracketed : {ts rest : List Token} {c : Condition} → Stands ts (Or c) (Close ∷ rest) → Stands (Open ∷ ts) (Unary c) rest
  selects : {ts rest : List Token} {way : Way} → Stands ts (Relative way) rest → Stands ts (Unary (Selects way)) rest
  compares : {ts us rest : List Token} {way : Way} {r : Relation} {v : Value} →
      Stands ts (Relative way) us → Stands us (Operand r v) rest → Stands ts (Unary (Compares way r v)) rest
  plain : {ts rest : List Token} {way : Way} → Stands ts (Steps Child way) rest → Stands ts (Relative way) rest
  dotted : {ts rest : List Token} {way : Way} (axis : Axis) → Stands ts (Steps axis way) rest → Stands (Dot ∷ separator axis ∷ ts) (Relative way) rest
  literal : {rest : List Token} {r : Relation} {text : List ℕ} → IsTrue (is_equality r) → Stands (Related r ∷ Quoted text ∷ rest) (Operand r (Literal text)) rest
  number : {rest : List Token} {r : Relation} {whole fraction : List ℕ} →
      Stands (Related r ∷ Numeric whole fraction ∷ rest) (Operand r (Number (units_of false whole fraction))) rest
  negative : {rest : List Token} {r : Relation} {whole fraction : List ℕ} →
      Stands (Related r ∷ Minus ∷ Numeric whole fraction ∷ rest) (Operand r (Number (units_of true whole fraction))) rest

-- the tokens write the filter
abbrev pub Writes : List Token → Way → Type 0
Writes [] filter = ⊥
Writes (t ∷ ts) filter = (axis : Axis) × (t ≡ separator axis) × Stands ts (Steps axis filter) []
