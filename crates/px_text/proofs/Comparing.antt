-- How a number with digits of any length stands to a decimal.
use Rattle.std.proofs.Common.{◌≡◌, ℕ, zero, suc, ◌+◌, ◌-◌, ◌*◌, ◌^◌, ◌<◌, ◌≤◌, min, Bool, true, false, nat_lt, List, ◌++◌, length, length-drop, take, drop, ℤ, pos, negsuc, neg_ℤ, ◌*ℤ◌, ◌<ℤ◌, unsigned_abs, int_lt, if◌then◌else◌, refl, ap, sym, subst, ◌∙◌, ⊎_elim, lit<, mul-one, arith, append_assoc}
use Rattle.std.specs.List.{list_all}
use Rattle.std.specs.declared.cmp.Ordering.{Ordering}
use Rattle.std.specs.declared.cmp.Ordering.TheVariants.{Less, Equal, Greater}
use Rattle.std.specs.Ordering.{nat_cmp, int_cmp, ordering_then, ordering_reverse}
use Rattle.std.specs.Cmp.{nat_cmp_is, int_cmp_is}
use Rattle.std.proofs.lemmas.Bool.{cases_lt}
use Rattle.std.proofs.lemmas.Bool.Decides.{nat_tests}
use Rattle.std.proofs.lemmas.Int.{ints}
use Rattle.std.proofs.lemmas.List.{take_all, drop_all, take-append-drop, length-take-le}
use Rattle.std.proofs.lemmas.Nat.{pow-add}
use Rattle.std.proofs.Math.Nat.{one-le-pow, eq-or-lt_of_le, mul-lt-mul_of_pos_right, mul-le-mul_right}
use Rattle.px_text.specs.Names.{is_digit}
use Rattle.px_text.specs.Numbers.{signed, value}
use Rattle.px_text.proofs.Digits.{value-append, value_below, units_by_parts}
use Rattle.px_text.proofs.Numbers.{digits_apart}

pub nat_less : (a b : ℕ) → a < b → nat_cmp a b ≡ Less
nat_less a b h = sym (nat_cmp_is a b Less h)

nat_equal : (a b : ℕ) → a ≡ b → nat_cmp a b ≡ Equal
nat_equal a b h = sym (nat_cmp_is a b Equal h)

pub nat_greater : (a b : ℕ) → b < a → nat_cmp a b ≡ Greater
nat_greater a b h = sym (nat_cmp_is a b Greater h)

-- a statement for each way in which two numbers may stand to each other
by_order : (P : Type 0) (a b : ℕ) → (a < b → P) → (a ≡ b → P) → (b < a → P) → P
by_order P a b less equal greater = ⊎_elim less (λ h. ⊎_elim (λ e. equal (sym e)) greater (eq-or-lt_of_le h)) (cases_lt a b)

same_order : (a b c d : ℕ) → (a < b → c < d) → (a ≡ b → c ≡ d) → (b < a → d < c) → nat_cmp a b ≡ nat_cmp c d
same_order a b c d less equal greater =
    by_order (nat_cmp a b ≡ nat_cmp c d) a b
    (λ h. nat_less a b h ∙ sym (nat_less c d (less h)))
    (λ h. nat_equal a b h ∙ sym (nat_equal c d (equal h)))
    (λ h. nat_greater a b h ∙ sym (nat_greater c d (greater h)))

scaled_order : (a b k : ℕ) → 0 < k → nat_cmp a b ≡ nat_cmp (a * k) (b * k)
scaled_order a b k h =
    same_order a b (a * k) (b * k) (λ l. mul-lt-mul_of_pos_right l h) (λ e. ap (λ n. n * k) e) (λ l. mul-lt-mul_of_pos_right l h)

int_order : (a b : ℤ) (x y : ℕ) → (x < y → a <ℤ b) → (x ≡ y → a ≡ b) → (y < x → b <ℤ a) → int_cmp a b ≡ nat_cmp x y
int_order a b x y less equal greater =
    by_order (int_cmp a b ≡ nat_cmp x y) x y
    (λ h. sym (int_cmp_is a b Less (less h)) ∙ sym (nat_less x y h))
    (λ h. sym (int_cmp_is a b Equal (equal h)) ∙ sym (nat_equal x y h))
    (λ h. sym (int_cmp_is a b Greater (greater h)) ∙ sym (nat_greater x y h))

-- whole units, and a rest of less than one unit, beside whole units
order_with_rest : (u r d m : ℕ) → r < m → nat_cmp (u * m + r) (d * m) ≡ ordering_then (nat_cmp u d) (if nat_lt 0 r then Greater else Equal)
order_with_rest u r d m h =
    by_order (nat_cmp (u * m + r) (d * m) ≡ ordering_then (nat_cmp u d) (if nat_lt 0 r then Greater else Equal)) u d
    (λ l.
    let s : suc u * m ≤ d * m = mul-le-mul_right m l in
    let e : suc u * m ≡ u * m + m = omega arith in
    rw (nat_less u d l) (nat_less (u * m + r) (d * m) (omega arith)))
    (λ e. rw (e, nat_equal d d refl) (rest r))
    (λ l.
    let s : suc d * m ≤ u * m = mul-le-mul_right m l in
    let e : suc d * m ≡ d * m + m = omega arith in
    rw (nat_greater u d l) (nat_greater (u * m + r) (d * m) (omega arith)))
  where
    rest : (r : ℕ) → nat_cmp (d * m + r) (d * m) ≡ (if nat_lt 0 r then Greater else Equal)
    rest zero = nat_equal (d * m + 0) (d * m) (omega arith)
    rest (suc r) = let some : nat_lt 0 (suc r) ≡ true = grind (arith, nat_tests) in rw some (nat_greater (d * m + suc r) (d * m) (omega arith))

-- a cut at 10 ^ 18 before the point is not seen by a decimal
capped_order : (w x d : ℕ) → d < 10 ^ 36 → nat_cmp (w * 10 ^ 18 + x) d ≡ nat_cmp (min w (10 ^ 18) * 10 ^ 18 + x) d
capped_order w x d h =
    ⊎_elim
    (λ l. let e : min w (10 ^ 18) ≡ w = omega arith in rw e refl)
    (λ l.
    let e : min w (10 ^ 18) ≡ 10 ^ 18 = omega arith in
    nat_greater (w * 10 ^ 18 + x) d (omega arith) ∙ sym (nat_greater (min w (10 ^ 18) * 10 ^ 18 + x) d (omega arith)))
    (cases_lt w (10 ^ 18))

by_one : (v a w m r : ℕ) → v ≡ (w + a) * m + r → v * 10 ^ 0 ≡ (w + a * 10 ^ 0) * m + r
by_one v a w m r e = rw (mul-one, mul-one) e

-- the value of all digits in units of the last place that is kept, with the rest behind it
parts : (whole fraction : List ℕ) →
    value (whole ++ fraction) * 10 ^ (18 - length fraction)
    ≡ (value whole * 10 ^ 18 + value (take 18 fraction) * 10 ^ (18 - length fraction)) * 10 ^ (length fraction - 18) + value (drop 18 fraction)
parts whole fraction = ⊎_elim (long (length fraction) refl) (short (length fraction) refl) (cases_lt 18 (length fraction))
  where
    short : (n : ℕ) → n ≡ length fraction → n ≤ 18 →
        value (whole ++ fraction) * 10 ^ (18 - length fraction)
        ≡ (value whole * 10 ^ 18 + value (take 18 fraction) * 10 ^ (18 - length fraction)) * 10 ^ (length fraction - 18) + value (drop 18 fraction)
    short n e h =
        let few : length fraction ≤ 18 = omega arith in
        let none : length fraction - 18 ≡ 0 = omega arith in
        rw (take_all 18 fraction few, drop_all 18 fraction few, none) (units_by_parts whole fraction few ∙ omega arith)

    long : (n : ℕ) → n ≡ length fraction → 18 < n →
        value (whole ++ fraction) * 10 ^ (18 - length fraction)
        ≡ (value whole * 10 ^ 18 + value (take 18 fraction) * 10 ^ (18 - length fraction)) * 10 ^ (length fraction - 18) + value (drop 18 fraction)
    long n e h =
        let all : length (take 18 fraction) ≡ 18 = length-take-le 18 fraction (omega arith) in
        let none : 18 - length fraction ≡ 0 = omega arith in
        let behind : length (drop 18 fraction) ≡ length fraction - 18 = length-drop 18 fraction in
        let cut : value (whole ++ fraction) ≡ value ((whole ++ take 18 fraction) ++ drop 18 fraction) =
        ap (λ f. value (whole ++ f)) (sym (take-append-drop 18 fraction)) ∙ ap value (sym (append_assoc whole (take 18 fraction) (drop 18 fraction)))
        in
        let front : value (whole ++ take 18 fraction) ≡ value whole * 10 ^ 18 + value (take 18 fraction) =
        value-append whole (take 18 fraction) ∙ ap (λ k. value whole * 10 ^ k + value (take 18 fraction)) all
        in
        let both : value (whole ++ fraction) ≡ (value whole * 10 ^ 18 + value (take 18 fraction)) * 10 ^ (length fraction - 18) + value (drop 18 fraction) =
        cut ∙ value-append (whole ++ take 18 fraction) (drop 18 fraction) ∙ ap (λ v. v * 10 ^ length (drop 18 fraction) + value (drop 18 fraction)) front
        ∙ ap (λ k. (value whole * 10 ^ 18 + value (take 18 fraction)) * 10 ^ k + value (drop 18 fraction)) behind
        in
        rw none (by_one (value (whole ++ fraction)) (value (take 18 fraction)) (value whole * 10 ^ 18) (10 ^ (length fraction - 18)) (value (drop 18 fraction)) both)

powers : (n : ℕ) → 10 ^ 18 * 10 ^ (n - 18) ≡ 10 ^ n * 10 ^ (18 - n)
powers n =
    let e : 18 + (n - 18) ≡ n + (18 - n) = omega arith in
    sym (pow-add 10 18 (n - 18)) ∙ ap (λ k. 10 ^ k) e ∙ pow-add 10 n (18 - n)

-- whole units and a rest decide how all the digits stand to a decimal
pub number_order : (whole fraction : List ℕ) (d : ℕ) → list_all is_digit fraction ≡ true → d < 10 ^ 36 →
    nat_cmp (value (whole ++ fraction) * 10 ^ 18) (d * 10 ^ length fraction)
    ≡ ordering_then (nat_cmp (min (value whole) (10 ^ 18) * 10 ^ 18 + value (take 18 fraction) * 10 ^ (18 - length fraction)) d)
    (if nat_lt 0 (value (drop 18 fraction)) then Greater else Equal)
number_order whole fraction d digits h =
    let n = length fraction in
    let v = value (whole ++ fraction) in
    let x = value (take 18 fraction) * 10 ^ (18 - n) in
    let u = value whole * 10 ^ 18 + x in
    let r = value (drop 18 fraction) in
    let m = 10 ^ (n - 18) in
    let p = 10 ^ (18 - n) in
    let P : List ℕ → Type 0 = λ f. list_all is_digit f ≡ true in
    let dropped = (digits_apart (take 18 fraction) (drop 18 fraction) (subst P (sym (take-append-drop 18 fraction)) digits)).1 in
    let less : r < m = subst (λ (k : ℕ). r < 10 ^ k) (length-drop 18 fraction) (value_below (drop 18 fraction) dropped) in
    let left : v * 10 ^ 18 * p ≡ (u * m + r) * 10 ^ 18 = swapped v (10 ^ 18) p ∙ ap (λ a. a * 10 ^ 18) (parts whole fraction) in
    let right : d * 10 ^ n * p ≡ d * m * 10 ^ 18 = regrouped d (10 ^ n) p (10 ^ 18) m (powers n) in
    scaled_order (v * 10 ^ 18) (d * 10 ^ n) p (one-le-pow (18 - n) 10 (lit< tt))
    ∙ ap (λ a. nat_cmp a (d * 10 ^ n * p)) left ∙ ap (λ b. nat_cmp ((u * m + r) * 10 ^ 18) b) right
    ∙ sym (scaled_order (u * m + r) (d * m) (10 ^ 18) (lit< tt))
    ∙ order_with_rest u r d m less
    ∙ ap (λ o. ordering_then o (if nat_lt 0 r then Greater else Equal)) (capped_order (value whole) x d h)
  where
    swapped : (a b c : ℕ) → a * b * c ≡ a * c * b
    swapped a b c = omega arith

    regrouped : (d a p b m : ℕ) → b * m ≡ a * p → d * a * p ≡ d * m * b
    regrouped d a p b m e = omega (arith, ap (λ x. d * x) e)

signed_scaled : (is_negative : Bool) (n k : ℕ) → signed is_negative n *ℤ pos k ≡ signed is_negative (n * k)
signed_scaled false n k = refl
signed_scaled true zero k = let none : 0 * k ≡ 0 = omega arith in rw none refl
signed_scaled true (suc n) k = refl

reversed : (x y : ℕ) → nat_cmp y x ≡ ordering_reverse (nat_cmp x y)
reversed x y =
    by_order (nat_cmp y x ≡ ordering_reverse (nat_cmp x y)) x y
    (λ h. rw (nat_less x y h) (nat_greater y x h))
    (λ h. rw (nat_equal x y h) (nat_equal y x (sym h)))
    (λ h. rw (nat_greater x y h) (nat_less y x h))

negated : (x y : ℕ) → int_cmp (neg_ℤ (pos x)) (neg_ℤ (pos y)) ≡ ordering_reverse (nat_cmp x y)
negated x y =
    int_order (neg_ℤ (pos x)) (neg_ℤ (pos y)) y x (λ h. omega (arith, ints)) (λ h. ap (λ n. neg_ℤ (pos n)) (sym h)) (λ h. omega (arith, ints)) ∙ reversed x y

more_than_none : (d m : ℕ) → 0 < m → 0 < suc d * m
more_than_none d m h = let e : suc d * m ≡ d * m + m = omega arith in omega arith

-- how a signed number stands to a signed decimal, by their signs and their sizes
pub signed_order : (is_negative : Bool) (n k : ℕ) (d : ℤ) (m : ℕ) → 0 < m →
    int_cmp (signed is_negative n *ℤ pos k) (d *ℤ pos m)
    ≡ (if is_negative
    then (if int_lt (pos 0) d then Less else ordering_reverse (nat_cmp (n * k) (unsigned_abs d * m)))
    else (if int_lt d (pos 0) then Greater else nat_cmp (n * k) (unsigned_abs d * m)))
signed_order false n k (pos d) m h =
    let no : int_lt (pos d) (pos 0) ≡ false = grind (arith, nat_tests) in
    rw no (int_order (pos (n * k)) (pos (d * m)) (n * k) (d * m) (λ h. omega (arith, ints)) (λ h. ap pos h) (λ h. omega (arith, ints)))
signed_order false n k (negsuc d) m h =
    let more = more_than_none d m h in sym (int_cmp_is (pos (n * k)) (neg_ℤ (pos (suc d * m))) Greater (omega (arith, ints)))
signed_order true n k (pos zero) m h =
    let none : 0 * m ≡ 0 = omega arith in rw (signed_scaled true n k, none) (negated (n * k) 0)
signed_order true n k (pos (suc d)) m h =
    let more = more_than_none d m h in
    let yes : int_lt (pos 0) (pos (suc d)) ≡ true = grind (arith, nat_tests) in
    rw (signed_scaled true n k, yes) (sym (int_cmp_is (neg_ℤ (pos (n * k))) (pos (suc d * m)) Less (omega (arith, ints))))
signed_order true n k (negsuc d) m h = rw (signed_scaled true n k) (negated (n * k) (suc d * m))

-- the same, by what is known of each part
pub order_by_signs : (is_negative : Bool) (n k : ℕ) (d : ℤ) (m : ℕ) (units : ℤ) (absolute : ℕ) (size result : Ordering) → 0 < m → units ≡ d → absolute ≡ unsigned_abs units →
    size ≡ nat_cmp (n * k) (absolute * m) →
    result ≡ (if is_negative then (if int_lt (pos 0) units then Less else ordering_reverse size) else (if int_lt units (pos 0) then Greater else size)) →
    result ≡ int_cmp (signed is_negative n *ℤ pos k) (d *ℤ pos m)
order_by_signs is_negative n k d m units absolute size result h u a s r = rw (r, s, a, u) (sym (signed_order is_negative n k d m h))
