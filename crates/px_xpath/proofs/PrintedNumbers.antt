-- What the printed form of a number says.
use Rattle.std.proofs.Common.{◌≡◌, ℕ, zero, suc, ◌+◌, ◌-◌, ◌*◌, ◌/◌, ◌%◌, ◌<◌, ◌≤◌, ◌^◌, ℤ, pos, negsuc, Bool, true, false, ◌&&◌, ◌==◌, List, [], ◌∷◌, ◌++◌, map, length, refl, ap, sym, ◌∙◌, arith, append_assoc, if◌then◌else◌, lit≤, lit<}
use Rattle.std.specs.Prelude.{unsigned_abs, int_lt}
use Rattle.std.specs.List.{list_all}
use Rattle.std.specs.Int.{IsInRange}
use Rattle.std.specs.Int.Digits.{digits_of, number_from_digits, number_from_digits_after, AllBelowBase}
use Rattle.std.proofs.lemmas.Bool.Decides.{nat_tests}
use Rattle.std.proofs.lemmas.Str.Parse.{IsDigitsTest, IsNumeralModel, numerals_by_fold, digits_value_short}
use Rattle.std.proofs.lemmas.Int.Digits.{all_below_base_digits_of, length-digits_of_step, length-digits_of-le, number_digits_of}
use Rattle.std.proofs.Math.Nat.{pow-suc, one-le-pow}
use Rattle.std.proofs.lemmas.Nat.{pow-add, div-add-mod', div_below, mod_below}
use Rattle.px_text.specs.Names.{is_digit}
use Rattle.px_text.specs.Numbers.{value, signed, units_of, sign, is_empty}
use Rattle.px_text.specs.Printing.{digits_text, whole_text, fraction_text, printed}
use Rattle.px_text.proofs.Digits.{value-append, units_by_parts, fraction_below_one}
use Rattle.std.proofs.lemmas.Bool.{and_parts}
use Rattle.px_text.proofs.Printed.{fraction_step, fraction_done}

abbrev AreDigits : List ℕ → Type 0
AreDigits ds = list_all is_digit ds ≡ true

digits_test : IsDigitsTest AreDigits
digits_test = record { empty = refl; parts = parts; more = more }
  where
    parts : (c : ℕ) (cs : List ℕ) → list_all is_digit (c ∷ cs) ≡ true → IsInRange 48 57 c × (list_all is_digit cs ≡ true)
    parts c cs h = let p = and_parts (is_digit c) (list_all is_digit cs) h in ((grind (arith, nat_tests), grind (arith, nat_tests)), p.1)

    more : (c : ℕ) (cs : List ℕ) → IsInRange 48 57 c → list_all is_digit cs ≡ true → list_all is_digit (c ∷ cs) ≡ true
    more c cs r h = let low = r.0 in let high = r.1 in let d : is_digit c ≡ true = grind (arith, nat_tests) in rw (d, h) refl

-- the words of this repository for digits and their value
own : IsNumeralModel AreDigits value
own = numerals_by_fold AreDigits digits_test (λ n ds. number_from_digits_after 10 n (map (λ b. b - 48) ds)) (record { empty = λ n. refl; more = λ n c cs r. refl })

-- whether a minus is printed, the digits before the point, and those behind it
abbrev pub is_below_zero : ℤ → Bool
is_below_zero units = int_lt units (pos 0)

abbrev pub printed_whole : ℤ → List ℕ
printed_whole units = whole_text (unsigned_abs units / 10 ^ 18)

abbrev pub printed_decimals : ℤ → List ℕ
printed_decimals units = fraction_text 18 (unsigned_abs units % 10 ^ 18)

-- the point and the digits behind it, where there are any
abbrev pub printed_fraction : List ℕ → List ℕ
printed_fraction [] = []
printed_fraction (d ∷ digits) = 46 ∷ d ∷ digits

whole_below : (units : ℤ) → unsigned_abs units < 10 ^ 36 → unsigned_abs units / 10 ^ 18 < 10 ^ 18
whole_below units h = omega arith

mapped_digits : (ds : List ℕ) → AllBelowBase 10 ds → list_all is_digit (map (λ d. 48 + d) ds) ≡ true
mapped_digits [] h = refl
mapped_digits (d ∷ ds) h = let below = h.0 in let e : is_digit (48 + d) ≡ true = grind (arith, nat_tests) in rw e (mapped_digits ds h.1)

mapped_back : (ds : List ℕ) → map (λ b. b - 48) (map (λ d. 48 + d) ds) ≡ ds
mapped_back [] = refl
mapped_back (d ∷ ds) = let e : 48 + d - 48 ≡ d = omega arith in rw e (ap (λ x. d ∷ x) (mapped_back ds))

mapped_length : (ds : List ℕ) → length (map (λ d. 48 + d) ds) ≡ length ds
mapped_length [] = refl
mapped_length (d ∷ ds) = ap suc (mapped_length ds)

-- a whole number is printed as one digit at least
by_zero : (P : List ℕ → Type 0) (n : ℕ) → (n ≡ 0 → P (48 ∷ [])) → (0 < n → P (digits_text n)) → P (whole_text n)
by_zero P n z s = by_test (n == 0) refl
  where
    by_test : (t : Bool) → (n == 0) ≡ t → P (if t then 48 ∷ [] else digits_text n)
    by_test true e = z (grind (arith, nat_tests))
    by_test false e = s (grind (arith, nat_tests))

pub whole_digits : (units : ℤ) → list_all is_digit (printed_whole units) ≡ true
whole_digits units =
    let n = unsigned_abs units / 10 ^ 18 in
    by_zero (λ ds. list_all is_digit ds ≡ true) n (λ z. refl) (λ s. mapped_digits (digits_of 10 n) (all_below_base_digits_of 10 n (lit≤ tt)))

pub whole_some : (units : ℤ) → is_empty (printed_whole units) ≡ false
whole_some units =
    let n = unsigned_abs units / 10 ^ 18 in
    by_zero (λ ds. is_empty ds ≡ false) n (λ z. refl)
    (λ s. filled (digits_text n)
    (let l = length-digits_of_step 10 n (lit≤ tt) s in let m = mapped_length (digits_of 10 n) in omega arith))
  where
    filled : (ds : List ℕ) → 0 < length ds → is_empty ds ≡ false
    filled [] h = absurd (omega arith)
    filled (d ∷ ds) h = refl

pub whole_short : (units : ℤ) → unsigned_abs units < 10 ^ 36 → length (printed_whole units) ≤ 18
whole_short units h =
    let n = unsigned_abs units / 10 ^ 18 in
    let below = whole_below units h in
    by_zero (λ ds. length ds ≤ 18) n (λ z. omega arith)
    (λ s. let l = length-digits_of-le 10 18 n (lit≤ tt) below in let m = mapped_length (digits_of 10 n) in omega arith)

whole_value : (units : ℤ) → value (printed_whole units) ≡ unsigned_abs units / 10 ^ 18
whole_value units =
    let n = unsigned_abs units / 10 ^ 18 in
    by_zero (λ ds. value ds ≡ unsigned_abs units / 10 ^ 18) n (λ z. sym z)
    (λ s. ap (number_from_digits 10) (mapped_back (digits_of 10 n)) ∙ number_digits_of 10 n (lit≤ tt))

record Fraction (places n : ℕ) : Type 0 where
  digits : list_all is_digit (fraction_text places n) ≡ true
  short : length (fraction_text places n) ≤ places
  worth : value (fraction_text places n) * 10 ^ (places - length (fraction_text places n)) ≡ n

one-le-power : (n : ℕ) → 1 ≤ 10 ^ n
one-le-power n = one-le-pow n 10 (lit< tt)

no_fraction : (places : ℕ) → Fraction places 0
no_fraction places =
    let e = fraction_done places in
    record { digits = rw e refl; short = rw e (omega arith); worth = rw e (omega arith) }

by_parts : (q p1 p2 p vb r m : ℕ) → p1 * p2 ≡ p → vb * p2 ≡ r → q * p + r ≡ m → (q * p1 + vb) * p2 ≡ m
by_parts q p1 p2 p vb r m e f g = omega (arith, ap (λ x. q * x) e)

power_split : (a b : ℕ) → a ≤ b → 10 ^ a * 10 ^ (b - a) ≡ 10 ^ b
power_split a b h = let e : a + (b - a) ≡ b = omega arith in sym (pow-add 10 a (b - a)) ∙ ap (λ k. 10 ^ k) e

-- a first digit before the rest of a fraction
first_then : (places m : ℕ) → m / 10 ^ places < 10 → Fraction places (m % 10 ^ places) → fraction_text (suc places) m ≡ (48 + m / 10 ^ places) ∷ fraction_text places (m % 10 ^ places) →
    Fraction (suc places) m
first_then places m first behind e =
    let q = m / 10 ^ places in
    let rest = fraction_text places (m % 10 ^ places) in
    let digit : is_digit (48 + m / 10 ^ places) ≡ true = grind (arith, nat_tests) in
    let short = behind.short in
    let v : value ((48 + q) ∷ rest) ≡ q * 10 ^ length rest + value rest =
    value-append ((48 + q) ∷ []) rest ∙ ap (λ x. x * 10 ^ length rest + value rest) (alone q) in
    let s : suc places - length ((48 + q) ∷ rest) ≡ places - length rest = omega arith in
    let worth = by_parts q (10 ^ length rest) (10 ^ (places - length rest)) (10 ^ places) (value rest) (m % 10 ^ places) m (power_split (length rest) places short) behind.worth (div-add-mod' m (10 ^ places)) in
    record { digits = rw (e, digit) behind.digits; short = rw e (omega arith); worth = rw (e, s, v) worth }
  where
    alone : (q : ℕ) → value ((48 + q) ∷ []) ≡ q
    alone q = omega arith

fraction_of : (places n : ℕ) → n < 10 ^ places → Fraction places n
fraction_of zero zero h = no_fraction zero
fraction_of zero (suc n) h = absurd (omega arith)
fraction_of (suc places) zero h = no_fraction (suc places)
fraction_of (suc places) (suc n) h =
    let p = one-le-power places in
    let below : suc n < 10 * 10 ^ places = let q = pow-suc 10 places in omega arith in
    first_then places (suc n) (div_below (suc n) (10 ^ places) 10 p below) (fraction_of places (suc n % 10 ^ places) (mod_below (suc n) (10 ^ places) p))
    (fraction_step places (suc n) (omega arith))

pub decimals_digits : (units : ℤ) → list_all is_digit (printed_decimals units) ≡ true
decimals_digits units = (fraction_of 18 (unsigned_abs units % 10 ^ 18) (omega arith)).digits

pub decimals_short : (units : ℤ) → length (printed_decimals units) ≤ 18
decimals_short units = (fraction_of 18 (unsigned_abs units % 10 ^ 18) (omega arith)).short

signed_back : (units : ℤ) → signed (is_below_zero units) (unsigned_abs units) ≡ units
signed_back (pos zero) = refl
signed_back (pos (suc n)) = let e : int_lt (pos (suc n)) (pos 0) ≡ false = grind (arith, nat_tests) in rw e refl
signed_back (negsuc n) = refl

-- its digits write the number
pub printed_units : (units : ℤ) → unsigned_abs units < 10 ^ 36 → units_of (is_below_zero units) (printed_whole units) (printed_decimals units) ≡ units
printed_units units h =
    let parts = units_by_parts (printed_whole units) (printed_decimals units) (decimals_short units) in
    let w = whole_value units in
    let d = (fraction_of 18 (unsigned_abs units % 10 ^ 18) (omega arith)).worth in
    let e : value (printed_whole units ++ printed_decimals units) * 10 ^ (18 - length (printed_decimals units)) ≡ unsigned_abs units = omega arith in
    ap (signed (is_below_zero units)) e ∙ signed_back units

abs_signed : (is_negative : Bool) (n : ℕ) → unsigned_abs (signed is_negative n) ≡ n
abs_signed true zero = refl
abs_signed true (suc n) = refl
abs_signed false n = refl

-- a number of at most 18 digits on each side of its point has fewer than 10 ^ 36 units
pub units_bounded : (is_negative : Bool) (whole fraction : List ℕ) → list_all is_digit whole ≡ true → list_all is_digit fraction ≡ true → length whole ≤ 18 → length fraction ≤ 18 →
    unsigned_abs (units_of is_negative whole fraction) < 10 ^ 36
units_bounded is_negative whole fraction w f h k =
    let v = digits_value_short own whole 18 w h in
    let u = digits_value_short own fraction (length fraction) f (omega arith) in
    let b = fraction_below_one (value fraction) (length fraction) u k in
    let parts = units_by_parts whole fraction k in
    let e = abs_signed is_negative (value (whole ++ fraction) * 10 ^ (18 - length fraction)) in
    omega arith

pointed : (n : ℕ) → (if n == 0 then [] else 46 ∷ fraction_text 18 n) ≡ printed_fraction (fraction_text 18 n)
pointed zero = rw (fraction_done 18) refl
pointed (suc n) = let some : (suc n == 0) ≡ false = grind (arith, nat_tests) in rw (some, fraction_step 17 (suc n) (omega arith)) refl

-- a number is printed as a sign, its digits before the point, and the point and those behind it
pub printed_is : (units : ℤ) → printed units ≡ sign (is_below_zero units) ++ (printed_whole units ++ printed_fraction (printed_decimals units))
printed_is units = rw (← pointed (unsigned_abs units % 10 ^ 18)) (append_assoc (sign (is_below_zero units)) (printed_whole units) _)
