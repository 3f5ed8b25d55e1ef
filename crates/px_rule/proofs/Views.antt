-- Facts of each view and sums over all of them, after one view changed, one came, or one took in another.
use Rattle.std.proofs.Common.{◌≡◌, ◌≢◌, ℕ, zero, suc, ◌+◌, ◌<◌, ◌≤◌, Bool, cond, eqb, eq-eqb, ne_eqb, List, [], ◌∷◌, ◌++◌, map, length, set, get_or, refl, sym, ap, ◌∙◌, subst, ⊎_elim, arith}
use Rattle.std.specs.Prelude.{All}
use mathlib.Core.Logic.{dite}
use native.Mathlib.Decide.{ℕ_discrete}
use mathlib.Core.Option.{some, some-ne-none, some-injective}
use lib.ListN.{get_elem?}
use Rattle.atomic_table.proofs.Lists.{at_set, set_else, set_here}
use Rattle.px_rule.specs.Banks.{total}

module _ {A : Type 0} where
  pub total_set : (f : A → ℕ) (views : List A) (i : ℕ) (v w : A) → get_elem? views i ≡ some v → total f (set views i w) + f v ≡ total f views + f w
  total_set f [] i v w e = absurd (some-ne-none v (sym e))
  total_set f (x ∷ xs) zero v w e = let same : f x ≡ f v = ap f (some-injective x v e) in omega arith
  total_set f (x ∷ xs) (suc i) v w e = let r = total_set f xs i v w e in omega arith

  pub total_snoc : (f : A → ℕ) (views : List A) (w : A) → total f (views ++ w ∷ []) ≡ total f views + f w
  total_snoc f [] w = omega arith
  total_snoc f (x ∷ xs) w = let r = total_snoc f xs w in omega arith

  pub total_le : (f g : A → ℕ) (views : List A) → ((i : ℕ) (v : A) → get_elem? views i ≡ some v → f v ≤ g v) → total f views ≤ total g views
  total_le f g [] h = omega arith
  total_le f g (x ∷ xs) h = let a : f x ≤ g x = h 0 x refl in let r = total_le f g xs (λ i v e. h (suc i) v e) in omega arith

  -- the place of one view is not more than the total
  pub part_le : (f : A → ℕ) (views : List A) (i : ℕ) (v : A) → get_elem? views i ≡ some v → f v ≤ total f views
  part_le f [] i v e = absurd (some-ne-none v (sym e))
  part_le f (x ∷ xs) zero v e = let same : f x ≡ f v = ap f (some-injective x v e) in omega arith
  part_le f (x ∷ xs) (suc i) v e = let r = part_le f xs i v e in omega arith

  pub each_set : (F : ℕ → A → Type 0) (views : List A) (i : ℕ) (w : A) → ((j : ℕ) (u : A) → j ≢ i → get_elem? views j ≡ some u → F j u) → F i w
      → (j : ℕ) (u : A) → get_elem? (set views i w) j ≡ some u → F j u
  each_set F views i w others mine j u e =
      ⊎_elim (λ (x : (j ≡ i) × (w ≡ u)). subst (λ (y : ℕ × A). F y.0 y.1) (λ k. (sym x.0 k, x.1 k)) mine) (λ (x : (j ≢ i) × (get_elem? views j ≡ some u)). others j u x.0 x.1)
      (at_set views i j w u e)

  pub there : (l : List A) (i : ℕ) → i < length l → (a : A) × (get_elem? l i ≡ some a)
  there [] i h = absurd (omega arith)
  there (x ∷ xs) zero h = (x, refl)
  there (x ∷ xs) (suc i) h = there xs i (omega arith)

  pub below : (l : List A) (i : ℕ) (a : A) → get_elem? l i ≡ some a → i < length l
  below [] i a e = absurd (some-ne-none a (sym e))
  below (x ∷ xs) zero a e = omega arith
  below (x ∷ xs) (suc i) a e = let r = below xs i a e in omega arith

  pub same_at : (l : List A) (i : ℕ) (a b : A) → get_elem? l i ≡ some a → get_elem? l i ≡ some b → a ≡ b
  same_at l i a b e f = some-injective a b (sym e ∙ f)

  -- the same, after one seat took in another
  pub each_join : (F : ℕ → A → Type 0) (views : List A) (i other : ℕ) (w z : A) → ((j : ℕ) (u : A) → j ≢ i → j ≢ other → get_elem? views j ≡ some u → F j u) → F i w → F other z
      → (j : ℕ) (u : A) → get_elem? (set (set views i w) other z) j ≡ some u → F j u
  each_join F views i other w z others mine theirs j u e =
      ⊎_elim (λ (x : (j ≡ other) × (z ≡ u)). subst (λ (y : ℕ × A). F y.0 y.1) (λ k. (sym x.0 k, x.1 k)) theirs)
      (λ (x : (j ≢ other) × (get_elem? (set views i w) j ≡ some u)).
      ⊎_elim (λ (y : (j ≡ i) × (w ≡ u)). subst (λ (r : ℕ × A). F r.0 r.1) (λ k. (sym y.0 k, y.1 k)) mine) (λ (y : (j ≢ i) × (get_elem? views j ≡ some u)). others j u y.0 x.0 y.1)
      (at_set views i j w u x.1))
      (at_set (set views i w) other j z u e)

  -- the same, after a seat came
  pub each_snoc : (F : ℕ → A → Type 0) (views : List A) (w : A) → ((j : ℕ) (u : A) → get_elem? views j ≡ some u → F j u) → F (length views) w
      → (j : ℕ) (u : A) → get_elem? (views ++ w ∷ []) j ≡ some u → F j u
  each_snoc F [] w others mine zero u e = subst (F 0) (some-injective w u e) mine
  each_snoc F [] w others mine (suc j) u e = absurd (some-ne-none u (sym e))
  each_snoc F (x ∷ xs) w others mine zero u e = others zero u e
  each_snoc F (x ∷ xs) w others mine (suc j) u e = each_snoc (λ k. F (suc k)) xs w (λ k. others (suc k)) mine j u e

  -- what is there stays there when a seat comes
  pub stays_there : (views : List A) (w : A) (j : ℕ) (u : A) → get_elem? views j ≡ some u → get_elem? (views ++ w ∷ []) j ≡ some u
  stays_there [] w j u e = absurd (some-ne-none u (sym e))
  stays_there (x ∷ xs) w zero u e = e
  stays_there (x ∷ xs) w (suc j) u e = stays_there xs w j u e

  -- a view with a fact that a changed view has too is still there
  pub present_set : (P : A → Type 0) (views : List A) (d i : ℕ) (w : A) → (v : A) × (get_elem? views d ≡ some v) × P v → ((v : A) → get_elem? views i ≡ some v → d ≡ i → P v → P w)
      → (v : A) × (get_elem? (set views i w) d ≡ some v) × P v
  present_set P views d i w there also = dite (ℕ_discrete d i)
      (λ yes. (
        w,
        ap (λ (j : ℕ). get_elem? (set views i w) j) yes ∙ set_here views i w (subst (λ (j : ℕ). j < length views) yes (below views d there.0 there.1)),
        also there.0 (subst (λ (j : ℕ). get_elem? views j ≡ some there.0) yes there.1) yes there.2,
      ))
      (λ no. (there.0, set_else views i d w no ∙ there.1, there.2))

  pub all_at : (P : A → Type 0) (xs : List A) (i : ℕ) (a : A) → get_elem? xs i ≡ some a → All P xs → P a
  all_at P xs i a e h = subst P (at_or xs i a e) (h i a (below xs i a e))
    where
      at_or : (xs : List A) (i : ℕ) (a : A) → get_elem? xs i ≡ some a → get_or xs i a ≡ a
      at_or [] i a e = refl
      at_or (x ∷ xs) zero a e = some-injective x a e
      at_or (x ∷ xs) (suc i) a e = at_or xs i a e

module _ {A : Type 0} where
  -- f, but a at i
  abbrev pub put : (ℕ → A) → ℕ → A → ℕ → A
  put f i a j = cond (eqb j i) a (f j)

  pub put_here : (f : ℕ → A) (i j : ℕ) (a : A) → j ≡ i → put f i a j ≡ a
  put_here f i j a e = ap (λ (b : Bool). cond b a (f j)) (eq-eqb j i e)

  pub put_else : (f : ℕ → A) (i j : ℕ) (a : A) → j ≢ i → put f i a j ≡ f j
  put_else f i j a n = ap (λ (b : Bool). cond b a (f j)) (ne_eqb j i n)

-- what stands at a place of a list of parts is the part of what stands there
pub whole_at : {A B : Type 0} (f : A → B) (views : List A) (i : ℕ) (b : B) → get_elem? (map f views) i ≡ some b → (a : A) × (get_elem? views i ≡ some a) × (f a ≡ b)
whole_at f [] i b e = absurd (some-ne-none b (sym e))
whole_at f (x ∷ xs) zero b e = (x, refl, some-injective (f x) b e)
whole_at f (x ∷ xs) (suc i) b e = whole_at f xs i b e
