-- The value of a list of digits, one digit after another and by parts.
use Rattle.std.proofs.Common.{◌≡◌, ℕ, zero, suc, ◌+◌, ◌-◌, ◌*◌, ◌^◌, ◌<◌, ◌≤◌, Bool, true, not, nat_lt, ◌==◌, ◌||◌, min, List, [], ◌∷◌, ◌++◌, map, length, length-append, take, drop, get_or, refl, ap, ◌∙◌, lit<, sym, ⊎_elim, mul-one, arith}
use Rattle.std.specs.List.{list_all}
use Rattle.std.specs.Int.Digits.{number_from_digits, number_from_digits_after}
use Rattle.std.proofs.Math.Nat.{pow-suc, pow-le-pow_right, one-le-pow, mul-le-mul_right, mul-lt-mul_of_pos_right}
use Rattle.std.proofs.lemmas.Grind.{pow_more}
use Rattle.std.proofs.lemmas.Nat.{pow-add}
use Rattle.std.proofs.lemmas.Bool.{cases_lt, and_parts}
use Rattle.std.proofs.lemmas.Bool.Decides.{nat_tests}
use Rattle.std.proofs.lemmas.List.{map-append, map_push, take_more, take_all, take-append-le, drop-append-le}
use Rattle.std.proofs.lemmas.Int.Digits.{number_after_append, number_push}
use Rattle.px_text.specs.Names.{is_digit}
use Rattle.px_text.specs.Numbers.{value}

pub digit_between : (b : ℕ) → is_digit b ≡ true → (48 ≤ b) × (b ≤ 57)
digit_between b h = (grind (arith, nat_tests), grind (arith, nat_tests))

pub digit_at : (ds : List ℕ) (i : ℕ) → list_all is_digit ds ≡ true → i < length ds → (48 ≤ get_or ds i 0) × (get_or ds i 0 ≤ 57)
digit_at [] i h l = absurd (omega arith)
digit_at (d ∷ ds) zero h l = digit_between d (and_parts (is_digit d) (list_all is_digit ds) h).0
digit_at (d ∷ ds) (suc i) h l = digit_at ds i (and_parts (is_digit d) (list_all is_digit ds) h).1 (omega arith)

after : (n : ℕ) (ds : List ℕ) → number_from_digits_after 10 n ds ≡ n * 10 ^ length ds + number_from_digits 10 ds
after n [] = omega arith
after n (d ∷ ds) = omega (arith, after (n * 10 + d) ds, after (0 * 10 + d) ds, ap (λ x. n * x) (pow-suc 10 (length ds)))

length-digits : (ds : List ℕ) → length (map (λ b. b - 48) ds) ≡ length ds
length-digits [] = refl
length-digits (d ∷ ds) = ap suc (length-digits ds)

pub value-append : (a b : List ℕ) → value (a ++ b) ≡ value a * 10 ^ length b + value b
value-append a b =
    ap (number_from_digits 10) (map-append (λ d. d - 48) a b) ∙ number_after_append 10 0 (map (λ d. d - 48) a) (map (λ d. d - 48) b)
    ∙ after (value a) (map (λ d. d - 48) b) ∙ ap (λ n. value a * 10 ^ n + value b) (length-digits b)

pub value_below : (ds : List ℕ) → list_all is_digit ds ≡ true → value ds < 10 ^ length ds
value_below [] h = omega arith
value_below (d ∷ ds) h =
    let p = and_parts (is_digit d) (list_all is_digit ds) h in
    let first = digit_between d p.0 in
    let fits : value (d ∷ []) * 10 ^ length ds ≤ 9 * 10 ^ length ds = mul-le-mul_right (10 ^ length ds) (omega arith) in
    omega (arith, value-append (d ∷ []) ds, value_below ds p.1, pow-suc 10 (length ds))

pub value_push : (ds : List ℕ) (d : ℕ) → value (ds ++ d ∷ []) ≡ value ds * 10 + (d - 48)
value_push ds d = ap (number_from_digits 10) (map_push (λ b. b - 48) ds d) ∙ number_push 10 (map (λ b. b - 48) ds) (d - 48)

pub value_more : (ds : List ℕ) (i : ℕ) → i < length ds → value (take (i + 1) ds) ≡ value (take i ds) * 10 + (get_or ds i 0 - 48)
value_more ds i h = ap value (take_more ds i 0 h) ∙ value_push (take i ds) (get_or ds i 0)

pub power_at_most : (i j : ℕ) → i ≤ j → 10 ^ i ≤ 10 ^ j
power_at_most i j h = pow-le-pow_right (lit< tt) h

-- eighteen digits fit 64 bits
pub one_more_digit_fits : (n i : ℕ) → n < 10 ^ i → i < 18 → n * 10 + 9 < 2 ^ 64
one_more_digit_fits n i h l = let p : 10 ^ i ≤ 10 ^ 17 = power_at_most i 17 (omega arith) in omega arith

pub one_more_digit_below : (n i d : ℕ) → n < 10 ^ i → d ≤ 57 → n * 10 + (d - 48) < 10 ^ (i + 1)
one_more_digit_below n i d h l = omega (arith, pow_more 10 i)

power_parts : (n : ℕ) → n ≤ 18 → 10 ^ n * 10 ^ (18 - n) ≡ 10 ^ 18
power_parts n h = let e : n + (18 - n) ≡ 18 = omega arith in sym (pow-add 10 n (18 - n)) ∙ ap (λ k. 10 ^ k) e

-- a value times the units of its last digit, by the part before the point and the part after it
pub units_by_parts : (whole fraction : List ℕ) → length fraction ≤ 18 →
    value (whole ++ fraction) * 10 ^ (18 - length fraction) ≡ value whole * 10 ^ 18 + value fraction * 10 ^ (18 - length fraction)
units_by_parts whole fraction h =
    ap (λ v. v * 10 ^ (18 - length fraction)) (value-append whole fraction) ∙ by_parts (value whole) (value fraction) (10 ^ length fraction) (10 ^ (18 - length fraction)) (power_parts (length fraction) h)
  where
    by_parts : (a b m n : ℕ) → m * n ≡ 10 ^ 18 → (a * m + b) * n ≡ a * 10 ^ 18 + b * n
    by_parts a b m n p = omega (arith, ap (λ x. a * x) p)

-- fewer than 10 ^ n units of the last place are less than one
pub fraction_below_one : (v n : ℕ) → v < 10 ^ n → n ≤ 18 → v * 10 ^ (18 - n) < 10 ^ 18
fraction_below_one v n h l =
    let p = power_parts n l in
    let e : 1 ≤ 10 ^ (18 - n) = one-le-pow (18 - n) 10 (lit< tt) in
    let q : v * 10 ^ (18 - n) < 10 ^ n * 10 ^ (18 - n) = mul-lt-mul_of_pos_right h e in
    omega arith

-- a value that is cut at a bound may be cut before the next digit
pub capped_more : (ds : List ℕ) (d v : ℕ) → v ≡ min (value ds) (10 ^ 18) → min (v * 10 + (d - 48)) (10 ^ 18) ≡ min (value (ds ++ d ∷ [])) (10 ^ 18)
capped_more ds d v e = omega (arith, value_push ds d)

pub count_more : (ds : List ℕ) (d n : ℕ) → n ≡ min (length ds) 19 → min (n + 1) 19 ≡ min (length (ds ++ d ∷ [])) 19
count_more ds d n e = omega (arith, length-append ds (d ∷ []))

-- among the first eighteen digits a further one counts
pub short_value : (ds : List ℕ) (d : ℕ) → length ds < 18 → value (take 18 ds) * 10 + (d - 48) ≡ value (take 18 (ds ++ d ∷ []))
short_value ds d h =
    let before : take 18 ds ≡ ds = take_all 18 ds (omega arith) in
    let with : take 18 (ds ++ d ∷ []) ≡ ds ++ d ∷ [] = take_all 18 (ds ++ d ∷ []) (omega (arith, length-append ds (d ∷ []))) in
    rw (before, with) (sym (value_push ds d))

-- behind them only whether it is 0 counts
pub long_value : (ds : List ℕ) (d : ℕ) → 18 ≤ length ds → value (take 18 ds) ≡ value (take 18 (ds ++ d ∷ []))
long_value ds d h = sym (ap value (take-append-le 18 ds (d ∷ []) h))

pub long_rest : (ds : List ℕ) (d : ℕ) (below : Bool) → 18 ≤ length ds → is_digit d ≡ true → below ≡ nat_lt 0 (value (drop 18 ds)) →
    (below || not (d == 48)) ≡ nat_lt 0 (value (drop 18 (ds ++ d ∷ [])))
long_rest ds d below h digit e =
    let more : value (drop 18 (ds ++ d ∷ [])) ≡ value (drop 18 ds) * 10 + (d - 48) = ap value (drop-append-le 18 ds (d ∷ []) h) ∙ value_push (drop 18 ds) d in
    rw (more, e) (not_zero (value (drop 18 ds)) d (digit_between d digit).0)
  where
    not_zero : (v d : ℕ) → 48 ≤ d → (nat_lt 0 v || not (d == 48)) ≡ nat_lt 0 (v * 10 + (d - 48))
    not_zero v d l = grind (arith, nat_tests)

-- what is kept of a value is below the power of the places that are kept
pub capped_below : (v n m : ℕ) → v < 10 ^ (n + 1) → m ≡ min (min (n + 1) 255) 19 → min v (10 ^ 18) < 10 ^ m
capped_below v n m h e =
    ⊎_elim (λ l. let p = power_at_most (n + 1) m (omega arith) in omega arith) (λ l. let p = power_at_most 19 m (omega arith) in omega arith) (cases_lt n 19)

-- what is kept of a fraction is less than one
pub kept_below_one : (v n : ℕ) → v < 10 ^ 18 → v < 10 ^ n → v * 10 ^ (18 - n) < 10 ^ 18
kept_below_one v n capped below =
    ⊎_elim
    (λ l. let none : 18 - n ≡ 0 = omega arith in rw (none, mul-one) capped)
    (λ l. fraction_below_one v n below l)
    (cases_lt 18 n)
