-- No number of a printed filter is long.
use Rattle.std.proofs.Common.{◌≡◌, ℕ, ◌≤◌, Bool, true, false, List, [], ◌∷◌, length, refl, arith}
use Rattle.std.proofs.lemmas.Bool.Decides.{nat_tests}
use Rattle.std.specs.Prelude.{max, nat_le}
use Rattle.px_xpath.specs.declared.filter.Axis.{Axis}
use Rattle.px_xpath.specs.declared.filter.Axis.TheVariants.{Child, Below}
use Rattle.px_xpath.specs.declared.filter.Test.{Test}
use Rattle.px_xpath.specs.declared.filter.Test.TheVariants.{Element, AnyElement, Attribute, AnyAttribute, Text}
use Rattle.px_xpath.specs.declared.filter.Relation.{Relation}
use Rattle.px_xpath.specs.declared.filter.Value.{Value}
use Rattle.px_xpath.specs.declared.filter.Value.TheVariants.{Number, Literal}
use Rattle.px_xpath.specs.declared.printer.Joint.{Joint}
use Rattle.px_xpath.specs.declared.printer.Joint.TheVariants.{Both, Either}
use Rattle.px_xpath.specs.Filters.{Way, Arrived, StepThen, Condition, Selects, Compares, EachOf, SomeOf, Fails, Conditions, NoConditions, CondThen}
use Rattle.px_xpath.specs.Tokens.{Token}
use Rattle.px_xpath.specs.Grammar.{separator}
use Rattle.px_xpath.specs.Faults.{is_long}
use Rattle.px_xpath.specs.Printed.{stands_bracketed}
use Rattle.px_xpath.proofs.PrintedNumbers.{whole_short, decimals_short, is_below_zero, printed_whole, printed_decimals}
use Rattle.px_xpath.proofs.PrintedTokens.{test_tokens, start_tokens, value_tokens, minus_if, joining_token, open_if, close_if, steps_tokens, path_tokens, preds_tokens, condition_tokens, members_tokens, more_tokens}
use Rattle.px_xpath.proofs.Writable.{IsGoodValue, IsWritable, CanBeWritten, AreWritable}

abbrev pub AreShort : List Token → Type 0
AreShort [] = Unit {0}
AreShort (t ∷ ts) = (is_long t ≡ false) × AreShort ts

short_separator : (axis : Axis) → is_long (separator axis) ≡ false
short_separator Child = refl
short_separator Below = refl

short_joining : (joint : Joint) → is_long (joining_token joint) ≡ false
short_joining Both = refl
short_joining Either = refl

short_test : (t : Test) (ts : List Token) → AreShort ts → AreShort (test_tokens t ts)
short_test (Element name) ts h = (refl, h)
short_test AnyElement ts h = (refl, h)
short_test (Attribute name) ts h = (refl, (refl, h))
short_test AnyAttribute ts h = (refl, (refl, h))
short_test Text ts h = (refl, (refl, (refl, h)))

short_start : (axis : Axis) (ts : List Token) → AreShort ts → AreShort (start_tokens axis ts)
short_start Child ts h = h
short_start Below ts h = (refl, (refl, h))

short_minus : (is_negative : Bool) (ts : List Token) → AreShort ts → AreShort (minus_if is_negative ts)
short_minus true ts h = (refl, h)
short_minus false ts h = h

both_short : (a b : ℕ) → a ≤ 18 → b ≤ 18 → nat_le 19 (max a b) ≡ false
both_short a b h k = let l : max a b ≤ 18 = omega arith in grind (arith, nat_tests)

short_value : (r : Relation) (v : Value) (ts : List Token) → IsGoodValue r v → AreShort ts → AreShort (value_tokens v ts)
short_value r (Number units) ts g h =
    short_minus (is_below_zero units) _ (both_short (length (printed_whole units)) (length (printed_decimals units)) (whole_short units g) (decimals_short units), h)
short_value r (Literal bytes) ts g h = (refl, h)

short_open : (is_bracketed : Bool) (ts : List Token) → AreShort ts → AreShort (open_if is_bracketed ts)
short_open true ts h = (refl, h)
short_open false ts h = h

short_close : (is_bracketed : Bool) (ts : List Token) → AreShort ts → AreShort (close_if is_bracketed ts)
short_close true ts h = (refl, h)
short_close false ts h = h

mutual
  pub short_steps : (way : Way) (ts : List Token) → IsWritable way → AreShort ts → AreShort (steps_tokens way ts)
  short_steps Arrived ts g h = h
  short_steps (StepThen axis t conds onward) ts g h = (short_separator axis, short_test t _ (short_preds conds _ g.2 (short_steps onward ts g.3 h)))

  short_path : (path : Way) (ts : List Token) → IsWritable path → AreShort ts → AreShort (path_tokens path ts)
  short_path Arrived ts g h = h
  short_path (StepThen axis t conds onward) ts g h = short_start axis _ (short_test t _ (short_preds conds _ g.2 (short_steps onward ts g.3 h)))

  short_preds : (conds : Conditions) (ts : List Token) → AreWritable conds → AreShort ts → AreShort (preds_tokens conds ts)
  short_preds NoConditions ts g h = h
  short_preds (CondThen c cs) ts g h = (refl, short_condition c _ g.0 (refl, short_preds cs ts g.1 h))

  short_condition : (c : Condition) (ts : List Token) → CanBeWritten c → AreShort ts → AreShort (condition_tokens c ts)
  short_condition (Selects path) ts g h = short_path path ts g.1 h
  short_condition (Compares path r v) ts g h = short_path path _ g.1 (refl, short_value r v ts g.2 h)
  short_condition (EachOf cs) ts g h = short_members Both cs ts g.1 h
  short_condition (SomeOf cs) ts g h = short_members Either cs ts g.1 h
  short_condition (Fails c) ts g h = (refl, (refl, short_condition c _ g (refl, h)))

  short_members : (joint : Joint) (cs : Conditions) (ts : List Token) → AreWritable cs → AreShort ts → AreShort (members_tokens joint cs ts)
  short_members joint NoConditions ts g h = h
  short_members joint (CondThen c cs) ts g h =
      short_open (stands_bracketed joint c) _ (short_condition c _ g.0 (short_close (stands_bracketed joint c) _ (short_more joint cs ts g.1 h)))

  short_more : (joint : Joint) (cs : Conditions) (ts : List Token) → AreWritable cs → AreShort ts → AreShort (more_tokens joint cs ts)
  short_more joint NoConditions ts g h = h
  short_more joint (CondThen c cs) ts g h =
      (short_joining joint, short_open (stands_bracketed joint c) _ (short_condition c _ g.0 (short_close (stands_bracketed joint c) _ (short_more joint cs ts g.1 h))))
