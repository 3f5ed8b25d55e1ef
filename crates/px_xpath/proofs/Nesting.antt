-- A printed filter opens no more brackets at once than the text that the filter was read from.
use Rattle.std.proofs.Common.{◌≡◌, ℕ, zero, suc, ◌+◌, ◌-◌, ◌≤◌, max, Bool, true, false, List, [], ◌∷◌, take, refl, ap, sym, subst, arith, Some}
use Rattle.px_xpath.specs.declared.filter.Axis.{Axis}
use Rattle.px_xpath.specs.declared.filter.Axis.TheVariants.{Child, Below}
use Rattle.px_xpath.specs.declared.filter.Test.{Test}
use Rattle.px_xpath.specs.declared.filter.Test.TheVariants.{Element, AnyElement, Attribute, AnyAttribute, Text}
use Rattle.px_xpath.specs.declared.filter.Value.{Value}
use Rattle.px_xpath.specs.declared.filter.Value.TheVariants.{Number, Literal}
use Rattle.px_xpath.specs.declared.printer.Joint.{Joint}
use Rattle.px_xpath.specs.declared.printer.Joint.TheVariants.{Both, Either}
use Rattle.px_xpath.specs.Filters.{Way, Arrived, StepThen, Condition, Selects, Compares, EachOf, SomeOf, Fails, Conditions, NoConditions, CondThen}
use Rattle.px_xpath.specs.Tokens.{Token, Slashes, OpenSquare, CloseSquare, Open, Close, At, Star, Dot, Minus, Related, Quoted, Numeric, NameTest, AndWord, OrWord, NotWord, TextWord}
use Rattle.px_xpath.specs.Grammar.{Stands, attribute, text, last_element, element, no_pred, pred, one_and, ors, last_or, more_ors, one_unary, ands, last_and, more_ands, negated, bracketed, selects, compares, plain, dotted, literal, number, negative, Phrase, Steps, Preds, Or, Ors, And, Ands, Unary, Relative, Operand, Writes, separator, element_test, attribute_test}
use Rattle.px_xpath.specs.Faults.{open_behind}
use Rattle.px_xpath.specs.Printed.{stands_bracketed}
use Rattle.px_xpath.proofs.PrintedTokens.{test_tokens, start_tokens, value_tokens, minus_if, joining_token, open_if, close_if, steps_tokens, path_tokens, preds_tokens, condition_tokens, members_tokens, more_tokens}
use Rattle.px_xpath.proofs.PrintedNumbers.{is_below_zero}

-- from so many open brackets on, no front of the tokens opens more than 64
abbrev pub Fits : ℕ → List Token → Type 0
Fits n ts = (k : ℕ) → open_behind n (take k ts) ≤ 64

abbrev pub one_if : Bool → ℕ
one_if true = 1
one_if false = 0

-- how many brackets a printed filter opens at once
abbrev mutual
  pub steps_depth : Way → ℕ
  steps_depth Arrived = 0
  steps_depth (StepThen axis _ conds onward) = max (preds_depth conds) (steps_depth onward)

  pub preds_depth : Conditions → ℕ
  preds_depth NoConditions = 0
  preds_depth (CondThen c cs) = max (1 + condition_depth c) (preds_depth cs)

  pub condition_depth : Condition → ℕ
  condition_depth (Selects path) = steps_depth path
  condition_depth (Compares path r v) = steps_depth path
  condition_depth (EachOf cs) = members_depth Both cs
  condition_depth (SomeOf cs) = members_depth Either cs
  condition_depth (Fails c) = 1 + condition_depth c

  pub members_depth : Joint → Conditions → ℕ
  members_depth joint NoConditions = 0
  members_depth joint (CondThen c cs) = max (one_if (stands_bracketed joint c) + condition_depth c) (members_depth joint cs)

abbrev depth : Phrase → ℕ
depth (Steps axis way) = steps_depth way
depth (Preds cs) = preds_depth cs
depth (Or c) = condition_depth c
depth (Ors cs) = members_depth Either cs
depth (And c) = one_if (stands_bracketed Either c) + condition_depth c
depth (Ands cs) = members_depth Both cs
depth (Unary c) = one_if (stands_bracketed Both c) + condition_depth c
depth (Relative way) = steps_depth way
depth (Operand r v) = 0

-- a token that opens and closes nothing
abbrev pub IsNeutral : Token → Type 0
IsNeutral OpenSquare = ⊥
IsNeutral CloseSquare = ⊥
IsNeutral Open = ⊥
IsNeutral Close = ⊥
IsNeutral TextWord = ⊥
IsNeutral _ = Unit {0}

neutral_behind : (t : Token) (n : ℕ) (ts : List Token) → IsNeutral t → open_behind n (t ∷ ts) ≡ open_behind n ts
neutral_behind OpenSquare n ts h = absurd h
neutral_behind CloseSquare n ts h = absurd h
neutral_behind Open n ts h = absurd h
neutral_behind Close n ts h = absurd h
neutral_behind TextWord n ts h = absurd h
neutral_behind _ n ts h = refl

at_most : (a b : ℕ) → a ≡ b → b ≤ 64 → a ≤ 64
at_most a b e h = omega arith

-- what fits behind a token, and what fits with it

behind_neutral : (t : Token) (n : ℕ) (ts : List Token) → IsNeutral t → Fits n (t ∷ ts) → Fits n ts
behind_neutral t n ts h f k = at_most _ _ (sym (neutral_behind t n (take k ts) h)) (f (suc k))

behind_square : (n : ℕ) (ts : List Token) → Fits n (OpenSquare ∷ ts) → Fits (n + 1) ts
behind_square n ts f k = f (suc k)

behind_open : (n : ℕ) (ts : List Token) → Fits n (Open ∷ ts) → Fits (n + 1) ts
behind_open n ts f k = f (suc k)

behind_close_square : (n : ℕ) (ts : List Token) → Fits (n + 1) (CloseSquare ∷ ts) → Fits n ts
behind_close_square n ts f k =
    let e : n + 1 - 1 ≡ n = omega arith in at_most _ _ (ap (λ m. open_behind m (take k ts)) (sym e)) (f (suc k))

behind_close : (n : ℕ) (ts : List Token) → Fits (n + 1) (Close ∷ ts) → Fits n ts
behind_close n ts f k =
    let e : n + 1 - 1 ≡ n = omega arith in at_most _ _ (ap (λ m. open_behind m (take k ts)) (sym e)) (f (suc k))

behind_text : (n : ℕ) (ts : List Token) → Fits n (TextWord ∷ Open ∷ Close ∷ ts) → Fits n ts
behind_text n ts f k = f (suc (suc (suc k)))

with_neutral : (t : Token) (n : ℕ) (ts : List Token) → IsNeutral t → Fits n ts → Fits n (t ∷ ts)
with_neutral t n ts h f zero = f zero
with_neutral t n ts h f (suc k) = at_most _ _ (neutral_behind t n (take k ts) h) (f k)

with_square : (n : ℕ) (ts : List Token) → n ≤ 64 → Fits (n + 1) ts → Fits n (OpenSquare ∷ ts)
with_square n ts l f zero = l
with_square n ts l f (suc k) = f k

with_open : (n : ℕ) (ts : List Token) → n ≤ 64 → Fits (n + 1) ts → Fits n (Open ∷ ts)
with_open n ts l f zero = l
with_open n ts l f (suc k) = f k

with_close_square : (n : ℕ) (ts : List Token) → n + 1 ≤ 64 → Fits n ts → Fits (n + 1) (CloseSquare ∷ ts)
with_close_square n ts l f zero = l
with_close_square n ts l f (suc k) = let e : n + 1 - 1 ≡ n = omega arith in at_most _ _ (ap (λ m. open_behind m (take k ts)) e) (f k)

with_close : (n : ℕ) (ts : List Token) → n + 1 ≤ 64 → Fits n ts → Fits (n + 1) (Close ∷ ts)
with_close n ts l f zero = l
with_close n ts l f (suc k) = let e : n + 1 - 1 ≡ n = omega arith in at_most _ _ (ap (λ m. open_behind m (take k ts)) e) (f k)

with_text : (n : ℕ) (ts : List Token) → Fits n ts → Fits n (TextWord ∷ Open ∷ Close ∷ ts)
with_text n ts f zero = f zero
with_text n ts f (suc zero) = f zero
with_text n ts f (suc (suc zero)) = f zero
with_text n ts f (suc (suc (suc k))) = f k

neutral_element : (t : Token) (found : Test) → element_test t ≡ Some found → IsNeutral t
neutral_element (NameTest name) found e = tt
neutral_element Star found e = tt
neutral_element _ found e = absurd (cc)

neutral_attribute : (t : Token) (found : Test) → attribute_test t ≡ Some found → IsNeutral t
neutral_attribute (NameTest name) found e = tt
neutral_attribute Star found e = tt
neutral_attribute _ found e = absurd (cc)

neutral_separator : (axis : Axis) → IsNeutral (separator axis)
neutral_separator Child = tt
neutral_separator Below = tt

neutral_joining : (joint : Joint) → IsNeutral (joining_token joint)
neutral_joining Both = tt
neutral_joining Either = tt

-- where all tokens fit, the printed phrase does
deep : {ts rest : List Token} {p : Phrase} → Stands ts p rest → (n : ℕ) → Fits n ts → (n + depth p ≤ 64) × Fits n rest
deep (attribute {t = t} {rest = rest} {test = found} e) n f =
    let g = behind_neutral t n rest (neutral_attribute t found e) (behind_neutral At n (t ∷ rest) tt f) in
    let l : n ≤ 64 = g 0 in (omega arith, g)
deep (text {rest = rest}) n f = let g = behind_text n rest f in let l : n ≤ 64 = g 0 in (omega arith, g)
deep (last_element {t = t} {ts = ts} {test = found} e p) n f =
    let a = deep p n (behind_neutral t n ts (neutral_element t found e) f) in let l = a.0 in (omega arith, a.1)
deep (element {t = t} {ts = ts} {us = us} {test = found} next e p s) n f =
    let a = deep p n (behind_neutral t n ts (neutral_element t found e) f) in
    let b = deep s n (behind_neutral (separator next) n us (neutral_separator next) a.1) in
    let l = a.0 in let m = b.0 in (omega arith, b.1)
deep no_pred n f = let l : n ≤ 64 = f 0 in (omega arith, f)
deep (pred {ts = ts} {us = us} o p) n f =
    let a = deep o (n + 1) (behind_square n ts f) in
    let b = deep p n (behind_close_square n us a.1) in
    let l = a.0 in let m = b.0 in (omega arith, b.1)
deep (one_and a) n f = let x = deep a n f in let l = x.0 in (omega arith, x.1)
deep (ors {us = us} a os) n f =
    let x = deep a n f in let y = deep os n (behind_neutral OrWord n us tt x.1) in let l = x.0 in let m = y.0 in (omega arith, y.1)
deep (last_or a) n f = let x = deep a n f in let l = x.0 in (omega arith, x.1)
deep (more_ors {us = us} a os) n f =
    let x = deep a n f in let y = deep os n (behind_neutral OrWord n us tt x.1) in let l = x.0 in let m = y.0 in (omega arith, y.1)
deep (one_unary {c = c} u) n f = let x = deep u n f in let l = x.0 in let m = fewer c in (omega arith, x.1)
  where
    fewer : (c : Condition) → one_if (stands_bracketed Either c) ≤ one_if (stands_bracketed Both c)
    fewer (Selects path) = omega arith
    fewer (Compares path r v) = omega arith
    fewer (EachOf cs) = omega arith
    fewer (SomeOf cs) = omega arith
    fewer (Fails c) = omega arith
deep (ands {us = us} u vs) n f =
    let x = deep u n f in let y = deep vs n (behind_neutral AndWord n us tt x.1) in let l = x.0 in let m = y.0 in (omega arith, y.1)
deep (last_and u) n f = let x = deep u n f in let l = x.0 in (omega arith, x.1)
deep (more_ands {us = us} u vs) n f =
    let x = deep u n f in let y = deep vs n (behind_neutral AndWord n us tt x.1) in let l = x.0 in let m = y.0 in (omega arith, y.1)
deep (negated {ts = ts} {rest = rest} o) n f =
    let x = deep o (n + 1) (behind_open n ts (behind_neutral NotWord n (Open ∷ ts) tt f)) in let l = x.0 in (omega arith, behind_close n rest x.1)
deep (bracketed {ts = ts} {rest = rest} {c = c} o) n f =
    let x = deep o (n + 1) (behind_open n ts f) in let l = x.0 in let m = at_most_one (stands_bracketed Both c) in (omega arith, behind_close n rest x.1)
  where
    at_most_one : (t : Bool) → one_if t ≤ 1
    at_most_one true = omega arith
    at_most_one false = omega arith
deep (selects p) n f = let x = deep p n f in let l = x.0 in (omega arith, x.1)
deep (compares p o) n f = let x = deep p n f in let y = deep o n x.1 in let l = x.0 in (omega arith, y.1)
deep (plain s) n f = deep s n f
deep (dotted {ts = ts} axis s) n f =
    deep s n (behind_neutral (separator axis) n ts (neutral_separator axis) (behind_neutral Dot n (separator axis ∷ ts) tt f))
deep (literal {rest = rest} {r = r} {text = bytes} e) n f =
    let g = behind_neutral (Quoted bytes) n rest tt (behind_neutral (Related r) n (Quoted bytes ∷ rest) tt f) in let l : n ≤ 64 = g 0 in (omega arith, g)
deep (number {rest = rest} {r = r} {whole = whole} {fraction = fraction}) n f =
    let g = behind_neutral (Numeric whole fraction) n rest tt (behind_neutral (Related r) n (Numeric whole fraction ∷ rest) tt f) in
    let l : n ≤ 64 = g 0 in (omega arith, g)
deep (negative {rest = rest} {r = r} {whole = whole} {fraction = fraction}) n f =
    let g = behind_neutral (Numeric whole fraction) n rest tt (behind_neutral Minus n (Numeric whole fraction ∷ rest) tt (behind_neutral (Related r) n (Minus ∷ Numeric whole fraction ∷ rest) tt f)) in
    let l : n ≤ 64 = g 0 in (omega arith, g)

-- the filter that fitting tokens write nests no deeper
pub filter_deep : (ts : List Token) (filter : Way) → Writes ts filter → Fits 0 ts → steps_depth filter ≤ 64
filter_deep [] filter w f = absurd w
filter_deep (t ∷ ts) filter (axis, e, s) f =
    let g = behind_neutral t 0 ts (subst IsNeutral (sym e) (neutral_separator axis)) f in let l = (deep s 0 g).0 in omega arith

fits_test : (t : Test) (n : ℕ) (ts : List Token) → Fits n ts → Fits n (test_tokens t ts)
fits_test (Element name) n ts f = with_neutral (NameTest name) n ts tt f
fits_test AnyElement n ts f = with_neutral Star n ts tt f
fits_test (Attribute name) n ts f = with_neutral At n (NameTest name ∷ ts) tt (with_neutral (NameTest name) n ts tt f)
fits_test AnyAttribute n ts f = with_neutral At n (Star ∷ ts) tt (with_neutral Star n ts tt f)
fits_test Text n ts f = with_text n ts f

fits_start : (axis : Axis) (n : ℕ) (ts : List Token) → Fits n ts → Fits n (start_tokens axis ts)
fits_start Child n ts f = f
fits_start Below n ts f = with_neutral Dot n (Slashes ∷ ts) tt (with_neutral Slashes n ts tt f)

fits_minus : (is_negative : Bool) (n : ℕ) (ts : List Token) → Fits n ts → Fits n (minus_if is_negative ts)
fits_minus true n ts f = with_neutral Minus n ts tt f
fits_minus false n ts f = f

fits_value : (v : Value) (n : ℕ) (ts : List Token) → Fits n ts → Fits n (value_tokens v ts)
fits_value (Number units) n ts f = fits_minus (is_below_zero units) n _ (with_neutral (Numeric _ _) n ts tt f)
fits_value (Literal bytes) n ts f = with_neutral (Quoted bytes) n ts tt f

fits_member : (is_bracketed : Bool) (inside : ℕ) (n : ℕ) (read : List Token → List Token) →
    ((m : ℕ) (ts : List Token) → m + inside ≤ 64 → Fits m ts → Fits m (read ts)) → (ts : List Token) → n + (one_if is_bracketed + inside) ≤ 64 → Fits n ts →
    Fits n (open_if is_bracketed (read (close_if is_bracketed ts)))
fits_member true inside n read g ts l f = with_open n _ (omega arith) (g (n + 1) (Close ∷ ts) (omega arith) (with_close n ts (omega arith) f))
fits_member false inside n read g ts l f = g n ts (omega arith) f

mutual
  fits_steps : (way : Way) (n : ℕ) (ts : List Token) → n + steps_depth way ≤ 64 → Fits n ts → Fits n (steps_tokens way ts)
  fits_steps Arrived n ts l f = f
  fits_steps (StepThen axis t conds onward) n ts l f =
      with_neutral (separator axis) n _ (neutral_separator axis) (fits_test t n _ (fits_preds conds n _ (omega arith) (fits_steps onward n ts (omega arith) f)))

  fits_path : (path : Way) (n : ℕ) (ts : List Token) → n + steps_depth path ≤ 64 → Fits n ts → Fits n (path_tokens path ts)
  fits_path Arrived n ts l f = f
  fits_path (StepThen axis t conds onward) n ts l f =
      fits_start axis n _ (fits_test t n _ (fits_preds conds n _ (omega arith) (fits_steps onward n ts (omega arith) f)))

  fits_preds : (conds : Conditions) (n : ℕ) (ts : List Token) → n + preds_depth conds ≤ 64 → Fits n ts → Fits n (preds_tokens conds ts)
  fits_preds NoConditions n ts l f = f
  fits_preds (CondThen c cs) n ts l f =
      with_square n _ (omega arith)
      (fits_condition c (n + 1) _ (omega arith) (with_close_square n _ (omega arith) (fits_preds cs n ts (omega arith) f)))

  fits_condition : (c : Condition) (n : ℕ) (ts : List Token) → n + condition_depth c ≤ 64 → Fits n ts → Fits n (condition_tokens c ts)
  fits_condition (Selects path) n ts l f = fits_path path n ts l f
  fits_condition (Compares path r v) n ts l f = fits_path path n _ l (with_neutral (Related r) n _ tt (fits_value v n ts f))
  fits_condition (EachOf cs) n ts l f = fits_members Both cs n ts l f
  fits_condition (SomeOf cs) n ts l f = fits_members Either cs n ts l f
  fits_condition (Fails c) n ts l f =
      with_neutral NotWord n _ tt (with_open n _ (omega arith) (fits_condition c (n + 1) (Close ∷ ts) (omega arith) (with_close n ts (omega arith) f)))

  fits_members : (joint : Joint) (cs : Conditions) (n : ℕ) (ts : List Token) → n + members_depth joint cs ≤ 64 → Fits n ts → Fits n (members_tokens joint cs ts)
  fits_members joint NoConditions n ts l f = f
  fits_members joint (CondThen c cs) n ts l f =
      fits_member (stands_bracketed joint c) (condition_depth c) n (condition_tokens c) (λ m us k g. fits_condition c m us k g) _ (omega arith)
      (fits_more joint cs n ts (omega arith) f)

  fits_more : (joint : Joint) (cs : Conditions) (n : ℕ) (ts : List Token) → n + members_depth joint cs ≤ 64 → Fits n ts → Fits n (more_tokens joint cs ts)
  fits_more joint NoConditions n ts l f = f
  fits_more joint (CondThen c cs) n ts l f =
      with_neutral (joining_token joint) n _ (neutral_joining joint)
      (fits_member (stands_bracketed joint c) (condition_depth c) n (condition_tokens c) (λ m us k g. fits_condition c m us k g) _ (omega arith)
      (fits_more joint cs n ts (omega arith) f))

pub printed_fits : (filter : Way) → steps_depth filter ≤ 64 → Fits 0 (steps_tokens filter [])
printed_fits filter l = fits_steps filter 0 [] (omega arith) (λ k. none k)
  where
    none : (k : ℕ) → open_behind 0 (take k []) ≤ 64
    none zero = omega arith
    none (suc k) = omega arith
