-- A filter that good tokens write is writable.
use Rattle.std.proofs.Common.{◌≡◌, ◌≤◌, true, false, List, [], ◌∷◌, length, refl, subst, Some}
use Rattle.std.specs.List.{list_all}
use Rattle.px_text.specs.Names.{is_digit, is_filter_name}
use Rattle.px_xpath.specs.declared.filter.Test.{Test}
use Rattle.px_xpath.specs.declared.filter.Test.TheVariants.{Element, AnyElement, Attribute, AnyAttribute}
use Rattle.px_xpath.specs.Filters.{Way, Arrived, Conditions, NoConditions}
use Rattle.px_xpath.specs.Tokens.{Token, Star, Quoted, Numeric, NameTest}
use Rattle.px_xpath.specs.Grammar.{Stands, attribute, text, last_element, element, no_pred, pred, one_and, ors, last_or, more_ors, one_unary, ands, last_and, more_ands, negated, bracketed, selects, compares, plain, dotted, literal, number, negative, Phrase, Steps, Preds, Or, Ors, And, Ands, Unary, Relative, Operand, Writes, element_test, attribute_test}
use Rattle.px_xpath.proofs.PrintedNumbers.{units_bounded}
use Rattle.px_xpath.proofs.Writable.{IsGoodTest, MayStand, IsQuotable, IsGoodValue, HasSteps, HasOne, IsWritable, CanBeWritten, AreWritable}

-- a token as the tokens of a text are, a number with at most 18 digits on each side
abbrev pub IsGoodToken : Token → Type 0
IsGoodToken (NameTest name) = is_filter_name name ≡ true
IsGoodToken (Quoted bytes) = IsQuotable bytes
IsGoodToken (Numeric whole fraction) =
    (list_all is_digit whole ≡ true) × (list_all is_digit fraction ≡ true) × (length whole ≤ 18) × (length fraction ≤ 18)
IsGoodToken _ = Unit {0}

abbrev pub AreGood : List Token → Type 0
AreGood [] = Unit {0}
AreGood (t ∷ ts) = IsGoodToken t × AreGood ts

abbrev IsGood : Phrase → Type 0
IsGood (Steps axis way) = HasSteps way × IsWritable way
IsGood (Preds cs) = AreWritable cs
IsGood (Or c) = CanBeWritten c
IsGood (Ors cs) = HasOne cs × AreWritable cs
IsGood (And c) = CanBeWritten c
IsGood (Ands cs) = HasOne cs × AreWritable cs
IsGood (Unary c) = CanBeWritten c
IsGood (Relative way) = HasSteps way × IsWritable way
IsGood (Operand r v) = IsGoodValue r v

from_some : {A : Type 0} (P : A → Type 0) (x y : A) → Some x ≡ Some y → P x → P y
from_some P x y e h = let same : x ≡ y = cc in subst P same h

good_element : (t : Token) (found : Test) → element_test t ≡ Some found → IsGoodToken t → IsGoodTest found × ((conds : Conditions) (onward : Way) → MayStand found conds onward)
good_element (NameTest name) found e g =
    from_some (λ u. IsGoodTest u × ((conds : Conditions) (onward : Way) → MayStand u conds onward)) (Element name) found e (g, λ conds onward. tt)
good_element Star found e g =
    from_some (λ u. IsGoodTest u × ((conds : Conditions) (onward : Way) → MayStand u conds onward)) AnyElement found e (tt, λ conds onward. tt)
good_element _ found e g = absurd (cc)

good_attribute : (t : Token) (found : Test) → attribute_test t ≡ Some found → IsGoodToken t → IsGoodTest found × MayStand found NoConditions Arrived
good_attribute (NameTest name) found e g = from_some (λ u. IsGoodTest u × MayStand u NoConditions Arrived) (Attribute name) found e (g, (refl, refl))
good_attribute Star found e g = from_some (λ u. IsGoodTest u × MayStand u NoConditions Arrived) AnyAttribute found e (tt, (refl, refl))
good_attribute _ found e g = absurd (cc)

pub good : {ts rest : List Token} {p : Phrase} → Stands ts p rest → AreGood ts → IsGood p × AreGood rest
good (attribute {t = t} {test = found} e) g = let a = good_attribute t found e g.1.0 in ((tt, (a.0, a.1, tt, tt)), g.1.1)
good text g = ((tt, (tt, (refl, refl), tt, tt)), g.1.1.1)
good (last_element {t = t} {test = found} e p) g =
    let a = good_element t found e g.0 in let b = good p g.1 in ((tt, (a.0, a.1 _ _, b.0, tt)), b.1)
good (element {t = t} {test = found} next e p s) g =
    let a = good_element t found e g.0 in
    let b = good p g.1 in
    let c = good s b.1.1 in
    ((tt, (a.0, a.1 _ _, b.0, c.0.1)), c.1)
good no_pred g = (tt, g)
good (pred o p) g = let a = good o g.1 in let b = good p a.1.1 in ((a.0, b.0), b.1)
good (one_and a) g = good a g
good (ors a os) g = let x = good a g in let y = good os x.1.1 in ((y.0.0, (x.0, y.0.1)), y.1)
good (last_or a) g = let x = good a g in ((tt, (x.0, tt)), x.1)
good (more_ors a os) g = let x = good a g in let y = good os x.1.1 in ((tt, (x.0, y.0.1)), y.1)
good (one_unary u) g = good u g
good (ands u us) g = let x = good u g in let y = good us x.1.1 in ((y.0.0, (x.0, y.0.1)), y.1)
good (last_and u) g = let x = good u g in ((tt, (x.0, tt)), x.1)
good (more_ands u us) g = let x = good u g in let y = good us x.1.1 in ((tt, (x.0, y.0.1)), y.1)
good (negated o) g = let x = good o g.1.1 in (x.0, x.1.1)
good (bracketed o) g = let x = good o g.1 in (x.0, x.1.1)
good (selects p) g = good p g
good (compares p o) g = let x = good p g in let y = good o x.1 in ((x.0.0, x.0.1, y.0), y.1)
good (plain s) g = good s g
good (dotted axis s) g = good s g.1.1
good (literal e) g = ((e, g.1.0), g.1.1)
good (number {whole = whole} {fraction = fraction}) g = (units_bounded false whole fraction g.1.0.0 g.1.0.1 g.1.0.2 g.1.0.3, g.1.1)
good (negative {whole = whole} {fraction = fraction}) g = (units_bounded true whole fraction g.1.1.0.0 g.1.1.0.1 g.1.1.0.2 g.1.1.0.3, g.1.1.1)

-- a filter that good tokens write is writable
pub written : (ts : List Token) (filter : Way) → AreGood ts → Writes ts filter → HasSteps filter × IsWritable filter
written [] filter g w = absurd w
written (t ∷ ts) filter g (axis, e, s) = (good s g.1).0
