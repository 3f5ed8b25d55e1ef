-- Rising lists by their places, and two of them with the same members.
use Rattle.std.proofs.Common.{◌≡◌, ℕ, zero, suc, ◌<◌, ◌≤◌, Bool, true, false, ◌||◌, List, [], ◌∷◌, length, get_or, refl, sym, ◌∙◌, ap, arith, nat_eq, inl, inr}
use Rattle.std.specs.Prelude.{Result, Ok, Err}
use Rattle.std.specs.Ordering.{nat_cmp}
use Rattle.std.specs.List.Sorted.{IsBinarySearchResult}
use Rattle.std.proofs.lemmas.List.Sorted.{searched}
use Rattle.std.proofs.lemmas.Bool.{eq-eqb, ne_eqb, eqb-true, or_left, or_right, cases_lt}
use Rattle.std.specs.Result.{is_ok}
use Rattle.px_text.specs.Sets.{has, Above, Rising}

-- the first of a rising list is below the others
pub above_at : (x : ℕ) (xs : List ℕ) → Above x xs → Rising xs → (i : ℕ) → i < length xs → x < get_or xs i 0
above_at x [] a r i h = absurd (omega arith)
above_at x (y ∷ ys) a r zero h = a
above_at x (y ∷ ys) a r (suc i) h = let l : y < get_or ys i 0 = above_at y ys r.1 r.2 i (omega arith) in let m : x < y = a in omega arith

pub rising_le : (xs : List ℕ) → Rising xs → (i j : ℕ) → i ≤ j → j < length xs → get_or xs i 0 ≤ get_or xs j 0
rising_le [] r i j le h = absurd (omega arith)
rising_le (x ∷ xs) r zero zero le h = omega arith
rising_le (x ∷ xs) r zero (suc j) le h = let l = above_at x xs r.1 r.2 j (omega arith) in omega arith
rising_le (x ∷ xs) r (suc i) zero le h = absurd (omega arith)
rising_le (x ∷ xs) r (suc i) (suc j) le h = rising_le xs r.2 i j (omega arith) (omega arith)

has_at : (xs : List ℕ) (n i : ℕ) → i < length xs → get_or xs i 0 ≡ n → has xs n ≡ true
has_at [] n i h e = absurd (omega arith)
has_at (x ∷ xs) n zero h e = or_left (nat_eq x n) (has xs n) (eq-eqb x n e)
has_at (x ∷ xs) n (suc i) h e = or_right (nat_eq x n) (has xs n) (has_at xs n i (omega arith) e)

has_none : (xs : List ℕ) (n : ℕ) → ((i : ℕ) → i < length xs → get_or xs i 0 ≡ n → ⊥) → has xs n ≡ false
has_none [] n h = refl
has_none (x ∷ xs) n h = let first : nat_eq x n ≡ false = ne_eqb x n (λ e. h 0 (omega arith) e) in rw first (has_none xs n (λ i l e. h (suc i) (omega arith) e))

-- a search by halves tells whether the number is there
pub found-has : (xs : List ℕ) (n : ℕ) → Rising xs → (r : Result ℕ ℕ) → IsBinarySearchResult (λ y. nat_cmp y n) xs r → is_ok r ≡ has xs n
found-has xs n rising (Ok i) h =
    let s = searched xs n (Ok i) h (rising_le xs rising) in sym (has_at xs n i s.0 s.1)
found-has xs n rising (Err i) h =
    let s = searched xs n (Err i) h (rising_le xs rising) in
    sym (has_none xs n (λ k l e. by k l e s.1 s.2))
  where
    by : (k : ℕ) → k < length xs → get_or xs k 0 ≡ n → ((k : ℕ) → k < i → get_or xs k 0 < n) → ((k : ℕ) → i ≤ k → k < length xs → n < get_or xs k 0) → ⊥
    by k l e low high = elim (cases_lt k i) [ inl less ↦ let a = low k less in omega arith | inr le ↦ let a = high k le l in omega arith ]

pub has_above : (x : ℕ) (xs : List ℕ) → Above x xs → Rising xs → (n : ℕ) → has xs n ≡ true → x < n
has_above x [] a r n h = cc
has_above x (y ∷ ys) a r n h = go (nat_eq y n) refl h (has_above y ys r.1 r.2 n)
  where
    go : (b : Bool) → nat_eq y n ≡ b → (b || has ys n) ≡ true → (has ys n ≡ true → y < n) → x < n
    go true e h' ih = let same : y ≡ n = eqb-true y n e in let l : x < y = a in omega arith
    go false e h' ih = let l : y < n = ih h' in let m : x < y = a in omega arith

-- two rising lists with the same members are one
pub rising_same : (xs ys : List ℕ) → Rising xs → Rising ys → ((n : ℕ) → has xs n ≡ has ys n) → xs ≡ ys
rising_same [] [] r s h = refl
rising_same [] (y ∷ ys) r s h = let e = h y in let f : (nat_eq y y || has ys y) ≡ true = or_left (nat_eq y y) (has ys y) (eq-eqb y y refl) in cc
rising_same (x ∷ xs) [] r s h = let e = h x in let f : (nat_eq x x || has xs x) ≡ true = or_left (nat_eq x x) (has xs x) (eq-eqb x x refl) in cc
rising_same (x ∷ xs) (y ∷ ys) r s h =
    let first : x ≡ y = heads in
    let rest : xs ≡ ys = rising_same xs ys r.2 s.2 (tails first) in
    cc
  where
    -- the head of the one is in the other, so neither is below the other
    at_x : (nat_eq y x || has ys x) ≡ true
    at_x = sym (h x) ∙ or_left (nat_eq x x) (has xs x) (eq-eqb x x refl)

    at_y : (nat_eq x y || has xs y) ≡ true
    at_y = h y ∙ or_left (nat_eq y y) (has ys y) (eq-eqb y y refl)

    not_above : (a b : ℕ) (bs : List ℕ) → Above b bs → Rising bs → (nat_eq b a || has bs a) ≡ true → b ≤ a
    not_above a b bs above rises e = go (nat_eq b a) refl e
      where
        go : (t : Bool) → nat_eq b a ≡ t → (t || has bs a) ≡ true → b ≤ a
        go true t e' = let same : b ≡ a = eqb-true b a t in omega arith
        go false t e' = let l = has_above b bs above rises a e' in omega arith

    heads : x ≡ y
    heads = let a = not_above x y ys s.1 s.2 at_x in let b = not_above y x xs r.1 r.2 at_y in omega arith

    tails : x ≡ y → (n : ℕ) → has xs n ≡ has ys n
    tails e n = go (nat_eq x n) refl (h n)
      where
        go : (t : Bool) → nat_eq x n ≡ t → (nat_eq x n || has xs n) ≡ (nat_eq y n || has ys n) → has xs n ≡ has ys n
        go true t all =
            let same : x ≡ n = eqb-true x n t in
            let low : has xs n ≡ false = has_not xs n (λ i. let l = has_above x xs r.1 r.2 n i in omega arith) in
            let low' : has ys n ≡ false = has_not ys n (λ i. let l = has_above y ys s.1 s.2 n i in omega arith) in
            low ∙ sym low'
          where
            has_not : (zs : List ℕ) (m : ℕ) → (has zs m ≡ true → ⊥) → has zs m ≡ false
            has_not zs m f = by (has zs m) refl
              where
                by : (b : Bool) → has zs m ≡ b → has zs m ≡ false
                by true e' = absurd (f e')
                by false e' = e'
        go false t all = let u : nat_eq y n ≡ false = ap (λ z. nat_eq z n) (sym e) ∙ t in rw (t, u) at all
