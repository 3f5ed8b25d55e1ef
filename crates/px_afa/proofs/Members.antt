-- What the functions on sets have as members.
use Rattle.std.proofs.Common.{◌≡◌, ℕ, zero, suc, ◌<◌, ◌≤◌, Bool, true, false, ◌&&◌, ◌||◌, cond, List, [], ◌∷◌, filter, refl, sym, ◌∙◌, ap, arith, ltb, nat_eq, nat_lt, eqb}
use Rattle.std.proofs.lemmas.List.Folds.{list_any-append}
use Rattle.std.proofs.lemmas.Grind.{common_steps}
use Rattle.std.proofs.lemmas.Bool.{ltb-true, ltb-false, eqb-true, eqb-false}
use Rattle.px_text.specs.Sets.{has}
use Rattle.px_afa.specs.Sets.{numbers_where, with_number, add}
use Rattle.std.proofs.Math.Bool.{or-false, and-false, and-true}

-- Bool laws, by cases
pub or_swap : (a b c : Bool) → (a || (b || c)) ≡ (b || (a || c))
or_swap = elim [ true ↦ elim [ true ↦ λ c. refl | false ↦ λ c. refl ] | false ↦ λ b c. refl ]

pub or_assoc : (a b c : Bool) → ((a || b) || c) ≡ (a || (b || c))
or_assoc = elim [ true ↦ λ b c. refl | false ↦ λ b c. refl ]

pub or_same : (a c : Bool) → (a || c) ≡ (a || (a || c))
or_same = elim [ true ↦ λ c. refl | false ↦ λ c. refl ]

pub has-with_number : (x : ℕ) (b : List ℕ) (n : ℕ) → has (with_number x b) n ≡ (nat_eq x n || has b n)
has-with_number x [] n = refl
has-with_number x (y ∷ ys) n = go (ltb x y) (eqb x y) refl (has-with_number x ys n)
  where
    go : (lt eq : Bool) → eqb x y ≡ eq → has (with_number x ys) n ≡ (nat_eq x n || has ys n) →
        has (cond lt (x ∷ y ∷ ys) (cond eq (y ∷ ys) (y ∷ with_number x ys))) n ≡ (nat_eq x n || has (y ∷ ys) n)
    go true eq e ih = refl
    go false true e ih = let same : x ≡ y = eqb-true x y e in rw same (or_same (nat_eq y n) (has ys n))
    go false false e ih = ap (λ r. nat_eq y n || r) ih ∙ or_swap (nat_eq y n) (nat_eq x n) (has ys n)

pub has-add : (a b : List ℕ) (n : ℕ) → has (add a b) n ≡ (has a n || has b n)
has-add [] b n = refl
has-add (x ∷ a) b n = has-with_number x (add a b) n ∙ ap (λ r. nat_eq x n || r) (has-add a b n) ∙ sym (or_assoc (nat_eq x n) (has a n) (has b n))

pub has-filter : (p : ℕ → Bool) (a : List ℕ) (n : ℕ) → has (filter p a) n ≡ (has a n && p n)
has-filter p [] n = refl
has-filter p (x ∷ a) n = go (p x) (nat_eq x n) refl refl (has-filter p a n)
  where
    go : (px e : Bool) → p x ≡ px → nat_eq x n ≡ e → has (filter p a) n ≡ (has a n && p n) →
        has (cond px (x ∷ filter p a) (filter p a)) n ≡ ((nat_eq x n || has a n) && p n)
    go true true hp he ih = let same : x ≡ n = eqb-true x n he in rw (he, ← same) (sym hp)
    go false true hp he ih = let same : x ≡ n = eqb-true x n he in rw (he, ← same, hp) (rw (← same, hp) at ih ∙ and-false (has a x))
    go true false hp he ih = rw he ih
    go false false hp he ih = rw he ih

-- one of the numbers below suc size is size or below it
below_more : (size : ℕ) (p : ℕ → Bool) (n : ℕ) → ((nat_lt n size && p n) || (nat_eq size n && p size)) ≡ (nat_lt n (suc size) && p n)
below_more size p n = go (ltb n size) (eqb size n) (ltb n (suc size)) refl refl refl
  where
    go : (lt eq more : Bool) → ltb n size ≡ lt → eqb size n ≡ eq → ltb n (suc size) ≡ more → ((lt && p n) || (eq && p size)) ≡ (more && p n)
    go true true more l e m = let below : n < size = ltb-true n size l in let same : size ≡ n = eqb-true size n e in absurd (omega arith)
    go true false true l e m = or-false (p n)
    go true false false l e m = let below : n < size = ltb-true n size l in let above : suc size ≤ n = ltb-false n (suc size) m in absurd (omega arith)
    go false true true l e m = ap p (eqb-true size n e)
    go false true false l e m = let same : size ≡ n = eqb-true size n e in let above : suc size ≤ n = ltb-false n (suc size) m in absurd (omega arith)
    go false false true l e m = let above : size ≤ n = ltb-false n size l in let below : n < suc size = ltb-true n (suc size) m in absurd (eqb-false size n e (omega arith))
    go false false false l e m = refl

pub has-numbers_where : (size : ℕ) (p : ℕ → Bool) (n : ℕ) → has (numbers_where size p) n ≡ (nat_lt n size && p n)
has-numbers_where zero p n = grind (arith, common_steps)
has-numbers_where (suc size) p n =
    list_any-append (λ m. nat_eq m n) (numbers_where size p) (cond (p size) (size ∷ []) [])
    ∙ (ap (λ r. r || has (cond (p size) (size ∷ []) []) n) (has-numbers_where size p n)
    ∙ (ap (λ r. (nat_lt n size && p n) || r) (last (p size))
    ∙ below_more size p n))
  where
    last : (b : Bool) → has (cond b (size ∷ []) []) n ≡ (nat_eq size n && b)
    last true = or-false (nat_eq size n) ∙ sym (and-true (nat_eq size n))
    last false = sym (and-false (nat_eq size n))
