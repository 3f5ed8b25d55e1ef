-- How a decimal is printed.
use Rattle.std.specs.Prelude.{ℕ, zero, suc, ◌+◌, ◌/◌, ◌%◌, ◌^◌, ◌==◌, List, [], ◌∷◌, ◌++◌, map, ℤ, pos, int_lt, unsigned_abs, if◌then◌else◌}
use Rattle.std.specs.Int.Digits.{digits_of}
use Rattle.px_text.specs.Numbers.{sign}

-- the digits of a number from its first that is not 0 on
abbrev pub digits_text : ℕ → List ℕ
digits_text n = map (λ d. 48 + d) (digits_of 10 n)

abbrev pub whole_text : ℕ → List ℕ
whole_text n = if n == 0 then 48 ∷ [] else digits_text n

-- the digits of a number at so many places, up to its last that is not 0
unfoldable pub fraction_text : (places : ℕ) → ℕ → List ℕ
fraction_text zero n = []
fraction_text (suc places) n =
    let first = 48 + n / 10 ^ places in
    let behind = fraction_text places (n % 10 ^ places) in
    if n == 0 then [] else first ∷ behind

-- a sign, the digits before the point, and where there is a fraction a point and its digits
abbrev pub printed : ℤ → List ℕ
printed units =
    let whole = unsigned_abs units / 10 ^ 18 in
    let fraction = unsigned_abs units % 10 ^ 18 in
    sign (int_lt units (pos 0)) ++ whole_text whole ++ (if fraction == 0 then [] else 46 ∷ fraction_text 18 fraction)
