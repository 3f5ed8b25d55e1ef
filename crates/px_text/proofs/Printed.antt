-- The digits of a decimal, one after another.
use Rattle.std.proofs.Common.{◌≡◌, ℕ, zero, suc, ◌+◌, ◌-◌, ◌/◌, ◌%◌, ◌^◌, ◌<◌, ◌≤◌, ◌==◌, false, [], ◌∷◌, ◌++◌, map, length, length-append, refl, ap, ◌∙◌, lit≤, lit<, arith}
use Rattle.std.specs.Int.Digits.{digits_of}
use Rattle.std.proofs.lemmas.Bool.Decides.{nat_tests}
use Rattle.std.proofs.lemmas.List.{map_push, length-map}
use Rattle.std.proofs.Math.Nat.{pow-suc, div-lt_iff_lt-mul, one-le-pow}
use Rattle.std.proofs.lemmas.Int.Digits.{digits_of_step, length-digits_of-le}
use Rattle.px_text.specs.Printing.{digits_text, fraction_text}

-- the last digit stands last
pub digits_step : (n : ℕ) → 0 < n → digits_text n ≡ digits_text (n / 10) ++ (48 + n % 10) ∷ []
digits_step n h = ap (map (λ d. 48 + d)) (digits_of_step 10 n (lit≤ tt) h) ∙ map_push (λ d. 48 + d) (digits_of 10 (n / 10)) (n % 10)

pub few_digits : (n : ℕ) → n < 10 ^ 18 → length (digits_text n) ≤ 18
few_digits n h = omega (arith, length-map (digits_of 10 n) (λ d. 48 + d), length-digits_of-le 10 18 n (lit≤ tt) h)

-- the first digit stands first
pub fraction_step : (places n : ℕ) → 0 < n → fraction_text (suc places) n ≡ (48 + n / 10 ^ places) ∷ fraction_text places (n % 10 ^ places)
unfolding fraction_text
fraction_step places n h = let some : (n == 0) ≡ false = grind (arith, nat_tests) in rw some refl

pub fraction_done : (places : ℕ) → fraction_text places 0 ≡ []
unfolding fraction_text
fraction_done zero = refl
fraction_done (suc places) = refl

pub digits_length : (n : ℕ) → 0 < n → length (digits_text n) ≡ length (digits_text (n / 10)) + 1
digits_length n h = ap length (digits_step n h) ∙ length-append (digits_text (n / 10)) ((48 + n % 10) ∷ [])

-- the next of so many places, by its unit
pub places_step : (places n unit : ℕ) → 0 < n → n < 10 ^ places → unit ≡ 10 ^ (places - 1) → fraction_text places n ≡ (48 + n / unit) ∷ fraction_text (places - 1) (n % unit)
places_step zero n unit h l e = absurd (omega arith)
places_step (suc places) n unit h l e =
    let one_less : suc places - 1 ≡ places = omega arith in
    let unit_is : unit ≡ 10 ^ places = e ∙ ap (λ k. 10 ^ k) one_less in
    rw (one_less, unit_is) (fraction_step places n h)

pub some_place : (places n : ℕ) → 0 < n → n < 10 ^ places → 0 < places
some_place zero n h l = absurd (omega arith)
some_place (suc places) n h l = omega arith

pub unit_positive : (k unit : ℕ) → unit ≡ 10 ^ k → 0 < unit
unit_positive k unit e = let p : 1 ≤ 10 ^ k = one-le-pow k 10 (lit< tt) in omega arith

pub one_digit : (places n unit : ℕ) → 0 < n → n < 10 ^ places → unit ≡ 10 ^ (places - 1) → n / unit < 10
one_digit zero n unit h l e = absurd (omega arith)
one_digit (suc places) n unit h l e =
    let one_less : suc places - 1 ≡ places = omega arith in
    let unit_is : unit ≡ 10 ^ places = e ∙ ap (λ k. 10 ^ k) one_less in
    (div-lt_iff_lt-mul (unit_positive (suc places - 1) unit e)).1 (omega (arith, pow-suc 10 places))
