-- The tokens of a printed filter, before the tokens that follow.
use Rattle.std.specs.Prelude.{Bool, true, false, List, ◌∷◌}
use Rattle.px_xpath.specs.declared.filter.Axis.{Axis}
use Rattle.px_xpath.specs.declared.filter.Axis.TheVariants.{Child, Below}
use Rattle.px_xpath.specs.declared.filter.Test.{Test}
use Rattle.px_xpath.specs.declared.filter.Test.TheVariants.{Element, AnyElement, Attribute, AnyAttribute, Text}
use Rattle.px_xpath.specs.declared.filter.Value.{Value}
use Rattle.px_xpath.specs.declared.filter.Value.TheVariants.{Number, Literal}
use Rattle.px_xpath.specs.declared.printer.Joint.{Joint}
use Rattle.px_xpath.specs.declared.printer.Joint.TheVariants.{Both, Either}
use Rattle.px_xpath.specs.Filters.{Way, Arrived, StepThen, Condition, Selects, Compares, EachOf, SomeOf, Fails, Conditions, NoConditions, CondThen}
use Rattle.px_xpath.specs.Tokens.{Token, Slashes, OpenSquare, CloseSquare, Open, Close, At, Star, Dot, Minus, Related, Quoted, Numeric, NameTest, AndWord, OrWord, NotWord, TextWord}
use Rattle.px_xpath.specs.Grammar.{separator}
use Rattle.px_xpath.specs.Printed.{stands_bracketed}
use Rattle.px_xpath.proofs.PrintedNumbers.{printed_whole, printed_decimals, is_below_zero}

abbrev pub test_tokens : Test → List Token → List Token
test_tokens (Element name) rest = NameTest name ∷ rest
test_tokens AnyElement rest = Star ∷ rest
test_tokens (Attribute name) rest = At ∷ NameTest name ∷ rest
test_tokens AnyAttribute rest = At ∷ Star ∷ rest
test_tokens Text rest = TextWord ∷ Open ∷ Close ∷ rest

abbrev pub axis_of : Way → Axis
axis_of Arrived = Child
axis_of (StepThen axis t conds onward) = axis

abbrev pub start_tokens : Axis → List Token → List Token
start_tokens Child rest = rest
start_tokens Below rest = Dot ∷ Slashes ∷ rest

abbrev pub minus_if : Bool → List Token → List Token
minus_if true rest = Minus ∷ rest
minus_if false rest = rest

abbrev pub value_tokens : Value → List Token → List Token
value_tokens (Number units) rest = minus_if (is_below_zero units) (Numeric (printed_whole units) (printed_decimals units) ∷ rest)
value_tokens (Literal text) rest = Quoted text ∷ rest

abbrev pub joining_token : Joint → Token
joining_token Both = AndWord
joining_token Either = OrWord

abbrev pub open_if : Bool → List Token → List Token
open_if true rest = Open ∷ rest
open_if false rest = rest

abbrev pub close_if : Bool → List Token → List Token
close_if true rest = Close ∷ rest
close_if false rest = rest

abbrev mutual
  pub steps_tokens : Way → List Token → List Token
  steps_tokens Arrived rest = rest
  steps_tokens (StepThen axis t conds onward) rest = separator axis ∷ test_tokens t (preds_tokens conds (steps_tokens onward rest))

  pub path_tokens : Way → List Token → List Token
  path_tokens Arrived rest = rest
  path_tokens (StepThen axis t conds onward) rest = start_tokens axis (test_tokens t (preds_tokens conds (steps_tokens onward rest)))

  pub preds_tokens : Conditions → List Token → List Token
  preds_tokens NoConditions rest = rest
  preds_tokens (CondThen c cs) rest = OpenSquare ∷ condition_tokens c (CloseSquare ∷ preds_tokens cs rest)

  pub condition_tokens : Condition → List Token → List Token
  condition_tokens (Selects path) rest = path_tokens path rest
  condition_tokens (Compares path r v) rest = path_tokens path (Related r ∷ value_tokens v rest)
  condition_tokens (EachOf cs) rest = members_tokens Both cs rest
  condition_tokens (SomeOf cs) rest = members_tokens Either cs rest
  condition_tokens (Fails c) rest = NotWord ∷ Open ∷ condition_tokens c (Close ∷ rest)

  pub members_tokens : Joint → Conditions → List Token → List Token
  members_tokens joint NoConditions rest = rest
  members_tokens joint (CondThen c cs) rest =
      open_if (stands_bracketed joint c) (condition_tokens c (close_if (stands_bracketed joint c) (more_tokens joint cs rest)))

  pub more_tokens : Joint → Conditions → List Token → List Token
  more_tokens joint NoConditions rest = rest
  more_tokens joint (CondThen c cs) rest =
      joining_token joint
      ∷ open_if (stands_bracketed joint c) (condition_tokens c (close_if (stands_bracketed joint c) (more_tokens joint cs rest)))

-- the steps of a way, without the separator of the first
abbrev pub first_tokens : Way → List Token → List Token
first_tokens Arrived rest = rest
first_tokens (StepThen axis t conds onward) rest = test_tokens t (preds_tokens conds (steps_tokens onward rest))
