-- How what a text spells goes on behind one more byte.
use Rattle.std.proofs.Common.{◌≡◌, ◌≢◌, ◌⊎◌, inl, inr, ℕ, ℤ, ◌+◌, ◌-◌, ◌*◌, ◌^◌, ◌<◌, ◌≤◌, min, nat_lt, ◌||◌, length, Bool, true, false, ◌&&◌, not, ◌==◌, List, [], ◌∷◌, ◌++◌, refl, ap, sym, ◌∙◌, Option, Some, None, unwrap_or, if◌then◌else◌, append_assoc, append-nil, arith}
use Rattle.std.specs.List.{list_all}
use Rattle.std.proofs.lemmas.Bool.Decides.{nat_tests}
use Rattle.std.proofs.lemmas.List.Folds.{list_all-append}
use Rattle.px_text.specs.declared.scan.NumberScan.{NumberScan}
use Rattle.px_text.specs.declared.scan.Stage.TheVariants.{Before, InWhole, InFraction, Behind, NotANumber}
use Rattle.px_text.specs.Names.{is_digit, is_white}
use Rattle.px_text.specs.Numbers.{Numeral, value, units_of, fraction_of, front, past, is_empty, numeral_if, unsigned, numeral}
use Rattle.px_text.specs.Readings.{is_long, reading_of}
use Rattle.px_text.specs.declared.reading.Reading.TheVariants.{Value, Long}
use Rattle.px_text.specs.declared.digit_runs.WholeDigits.{WholeDigits}
use Rattle.px_text.specs.declared.digit_runs.FractionDigits.{FractionDigits}
use Rattle.px_text.specs.Scans.{IsWhole, IsFraction, IsBegun, HasTaken, goes_on}
use Rattle.std.proofs.lemmas.List.{take_all}
use Rattle.px_text.proofs.Digits.{power_at_most, units_by_parts}
use Rattle.px_text.proofs.Numbers.{begins, take_front, past_front}

-- a byte more, by what the text would have gone on with
pub taken : (scan next : NumberScan) (text : List ℕ) (b : ℕ) (h : HasTaken scan text) (whole : List ℕ) (fraction : Option (List ℕ)) →
    IsWhole next.whole whole → IsFraction next.fraction (unwrap_or fraction []) → list_all is_digit whole ≡ true → list_all is_digit (unwrap_or fraction []) ≡ true →
    IsBegun next.stage next.is_negative whole fraction →
    ((rest : List ℕ) → goes_on scan.stage scan.is_negative h.whole h.fraction (b ∷ rest) ≡ goes_on next.stage next.is_negative whole fraction rest) →
    HasTaken next (text ++ b ∷ [])
taken scan next text b h whole fraction wi fi wd fd begun steps = record {
  whole = whole;
  fraction = fraction;
  whole_is = wi;
  fraction_is = fi;
  whole_digits = wd;
  fraction_digits = fd;
  begun = begun;
  goes = λ rest. ap numeral (append_assoc text (b ∷ []) rest) ∙ h.goes (b ∷ rest) ∙ steps rest;
}

pub is_not : (b d : ℕ) → b ≢ d → (b == d) ≡ false
is_not b d h = grind (arith, nat_tests)

pub one_more_digit : (ds : List ℕ) (b : ℕ) → list_all is_digit ds ≡ true → is_digit b ≡ true → list_all is_digit (ds ++ b ∷ []) ≡ true
one_more_digit ds b h d = rw (list_all-append is_digit ds (b ∷ []), h, d) refl

-- behind the digits only white space may stand
pub white_behind : (is_negative : Bool) (whole : List ℕ) (fraction : Option (List ℕ)) (b : ℕ) (rest : List ℕ) → is_white b ≡ true →
    numeral_if is_negative whole fraction (b ∷ rest) ≡ numeral_if is_negative whole fraction rest
white_behind is_negative whole fraction b rest w = rw w refl

pub other_behind : (is_negative : Bool) (whole : List ℕ) (fraction : Option (List ℕ)) (b : ℕ) (rest : List ℕ) → is_white b ≡ false →
    numeral_if is_negative whole fraction (b ∷ rest) ≡ None
other_behind is_negative whole fraction b rest w = rw w (never (not (is_empty (whole ++ unwrap_or fraction []))) _)
  where
    never : (t : Bool) (n : Numeral) → (if t && false then Some n else None) ≡ None
    never true n = refl
    never false n = refl

pub whole_digit : (is_negative : Bool) (whole : List ℕ) (b : ℕ) (rest : List ℕ) → unsigned is_negative (whole ++ b ∷ rest) ≡ unsigned is_negative ((whole ++ b ∷ []) ++ rest)
whole_digit is_negative whole b rest = ap (unsigned is_negative) (sym (append_assoc whole (b ∷ []) rest))

pub whole_point : (is_negative : Bool) (whole rest : List ℕ) → list_all is_digit whole ≡ true →
    unsigned is_negative (whole ++ 46 ∷ rest) ≡ numeral_if is_negative whole (Some (front is_digit rest)) (past is_digit rest)
unfolding begins
whole_point is_negative whole rest d = rw (take_front is_digit whole (46 ∷ rest) d refl, past_front is_digit whole (46 ∷ rest) d refl) refl

pub whole_ends : (is_negative : Bool) (whole : List ℕ) (b : ℕ) (rest : List ℕ) → list_all is_digit whole ≡ true → is_digit b ≡ false → (b == 46) ≡ false →
    unsigned is_negative (whole ++ b ∷ rest) ≡ numeral_if is_negative whole None (b ∷ rest)
unfolding begins
whole_ends is_negative whole b rest d n p = rw (take_front is_digit whole (b ∷ rest) d n, past_front is_digit whole (b ∷ rest) d n, p) refl

pub fraction_digit : (is_negative : Bool) (whole fraction : List ℕ) (b : ℕ) (rest : List ℕ) → is_digit b ≡ true →
    numeral_if is_negative whole (Some (fraction ++ front is_digit (b ∷ rest))) (past is_digit (b ∷ rest))
    ≡ numeral_if is_negative whole (Some ((fraction ++ b ∷ []) ++ front is_digit rest)) (past is_digit rest)
fraction_digit is_negative whole fraction b rest d =
    rw d (ap (λ ds. numeral_if is_negative whole (Some ds) (past is_digit rest)) (sym (append_assoc fraction (b ∷ []) (front is_digit rest))))

pub fraction_ends : (is_negative : Bool) (whole fraction : List ℕ) (b : ℕ) (rest : List ℕ) → is_digit b ≡ false →
    numeral_if is_negative whole (Some (fraction ++ front is_digit (b ∷ rest))) (past is_digit (b ∷ rest)) ≡ numeral_if is_negative whole (Some fraction) (b ∷ rest)
fraction_ends is_negative whole fraction b rest n = rw n (ap (λ ds. numeral_if is_negative whole (Some ds) (b ∷ rest)) (append-nil fraction))

pub first_other : (b : ℕ) (rest : List ℕ) → is_white b ≡ false → (b == 45) ≡ false → numeral (b ∷ rest) ≡ unsigned false (b ∷ rest)
first_other b rest w m = rw (w, m) refl

-- a text that ends where the scan is
now : (scan : NumberScan) (text : List ℕ) (h : HasTaken scan text) → numeral text ≡ goes_on scan.stage scan.is_negative h.whole h.fraction []
now scan text h = ap numeral (sym (append-nil text)) ∙ h.goes []

pub ends_as_nothing : (scan : NumberScan) (text : List ℕ) (h : HasTaken scan text) → (scan.stage ≡ Before) ⊎ (scan.stage ≡ NotANumber) → numeral text ≡ None
ends_as_nothing scan text h (inl e) = rw e at (now scan text h)
ends_as_nothing scan text h (inr e) = rw e at (now scan text h)

whole_now : (is_negative : Bool) (whole : List ℕ) → list_all is_digit whole ≡ true → unsigned is_negative (whole ++ []) ≡ numeral_if is_negative whole None []
unfolding begins
whole_now is_negative whole d = rw (take_front is_digit whole [] d refl, past_front is_digit whole [] d refl) refl

pub ends_in_digits : (scan : NumberScan) (text : List ℕ) (h : HasTaken scan text) → (scan.stage ≡ InWhole) ⊎ ((scan.stage ≡ InFraction) ⊎ (scan.stage ≡ Behind)) →
    numeral text ≡ numeral_if scan.is_negative h.whole h.fraction []
ends_in_digits scan text h (inl e) =
    let none : h.fraction ≡ None = rw e at h.begun in
    (rw e at (now scan text h)) ∙ whole_now scan.is_negative h.whole h.whole_digits ∙ ap (λ f. numeral_if scan.is_negative h.whole f []) (sym none)
ends_in_digits scan text h (inr (inl e)) =
    let some : h.fraction ≡ Some (unwrap_or h.fraction []) = rw e at h.begun in
    (rw e at (now scan text h)) ∙ ap (λ ds. numeral_if scan.is_negative h.whole (Some ds) []) (append-nil (unwrap_or h.fraction []))
    ∙ ap (λ f. numeral_if scan.is_negative h.whole f []) (sym some)
ends_in_digits scan text h (inr (inr e)) = rw e at (now scan text h)

-- with a digit on either side of the point it is a numeral
pub if_any_digit : (is_negative : Bool) (whole : List ℕ) (fraction : Option (List ℕ)) (m n : ℕ) → m ≡ min (length whole) 19 → n ≡ min (length (unwrap_or fraction [])) 19 →
    numeral_if is_negative whole fraction [] ≡ (if nat_lt 0 m || nat_lt 0 n then Some (record { is_negative = is_negative; whole = whole; fraction = fraction }) else None)
if_any_digit is_negative whole fraction m n e f = by_digits whole (unwrap_or fraction []) _ e f
  where
    by_digits : (whole digits : List ℕ) (x : Numeral) → m ≡ min (length whole) 19 → n ≡ min (length digits) 19 →
        (if not (is_empty (whole ++ digits)) && true then Some x else None) ≡ (if nat_lt 0 m || nat_lt 0 n then Some x else None)
    by_digits [] [] x e f = let zero_m : m ≡ 0 = omega arith in let zero_n : n ≡ 0 = omega arith in rw (zero_m, zero_n) refl
    by_digits [] (d ∷ digits) x e f =
        let zero_m : m ≡ 0 = omega arith in let some : nat_lt 0 n ≡ true = grind (arith, nat_tests) in rw (zero_m, some) refl
    by_digits (d ∷ whole) digits x e f = let some : nat_lt 0 m ≡ true = grind (arith, nat_tests) in rw some refl

-- the units of few digits are all kept
pub kept_units : (m : WholeDigits) (n : FractionDigits) (whole fraction : List ℕ) → IsWhole m whole → IsFraction n fraction → m.count ≤ 18 → n.count ≤ 18 →
    m.value * 10 ^ 18 + n.value * 10 ^ (18 - n.count) ≡ value (whole ++ fraction) * 10 ^ (18 - length fraction)
kept_units m n whole fraction w f few_m few_n =
    let p = power_at_most m.count 18 few_m in
    let below : m.value < 10 ^ 18 = omega (arith, m.bounded) in
    let whole_is : m.value ≡ value whole = omega (arith, w.value_is) in
    let short : length fraction ≤ 18 = omega (arith, f.count_is) in
    let count : n.count ≡ length fraction = omega (arith, f.count_is) in
    let fraction_is : n.value ≡ value fraction = f.value_is ∙ ap value (take_all 18 fraction short) in
    rw (whole_is, fraction_is, count) (sym (units_by_parts whole fraction short))

pub many : (m : ℕ) (digits : List ℕ) → m ≡ min (length digits) 19 → 18 < m → nat_lt 18 (length digits) ≡ true
many m digits e h = let l : 18 < length digits = omega arith in grind (arith, nat_tests)

pub few : (m : ℕ) (digits : List ℕ) → m ≡ min (length digits) 19 → m ≤ 18 → nat_lt 18 (length digits) ≡ false
few m digits e h = let l : length digits ≤ 18 = omega arith in grind (arith, nat_tests)

pub reads_long : (found : Option Numeral) (n : Numeral) → found ≡ Some n → is_long n ≡ true → Long ≡ reading_of found
reads_long found n e l = rw (e, l) refl

pub reads_value : (found : Option Numeral) (n : Numeral) (units : ℤ) → found ≡ Some n → is_long n ≡ false → units ≡ units_of n.is_negative n.whole (fraction_of n) → Value units ≡ reading_of found
reads_value found n units e l u = rw (e, l, u) refl

-- what is no number stays none, whatever comes
pub stays_nothing : (scan : NumberScan) (text more all : List ℕ) → HasTaken scan text → scan.stage ≡ NotANumber → text ++ more ≡ all → HasTaken scan all
stays_nothing scan text more all h e joined = record {
  whole = h.whole;
  fraction = h.fraction;
  whole_is = h.whole_is;
  fraction_is = h.fraction_is;
  whole_digits = h.whole_digits;
  fraction_digits = h.fraction_digits;
  begun = h.begun;
  goes = λ rest.
      let same : all ++ rest ≡ text ++ (more ++ rest) = ap (λ t. t ++ rest) (sym joined) ∙ append_assoc text more rest in
      let none : numeral (text ++ (more ++ rest)) ≡ None = rw e at (h.goes (more ++ rest)) in
      rw e (ap numeral same ∙ none);
}
