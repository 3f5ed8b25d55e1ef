-- Lists of items, and those of one giver among them.
use Rattle.std.proofs.Common.{◌≡◌, ◌≢◌, ℕ, zero, suc, ◌+◌, ◌<◌, ◌≤◌, ◌⊎◌, Bool, true, false, cond, List, [], ◌∷◌, ◌++◌, append_assoc, append-nil, nat_eq, eq-eqb, refl, ap, ◌∙◌, sym, subst, arith, inl, inr}
use Rattle.std.proofs.lemmas.Bool.Decides.{eqb_tells}
use Rattle.std.specs.Prelude.{Option, Some, None}
use mathlib.Core.Option.{some, some-ne-none, some-injective}
use lib.ListN.{get_elem?}
use Rattle.px_rule.specs.Banks.{total}
use Rattle.px_rule.proofs.Views.{part_le}
use Rattle.px_line.specs.Lines.{of, Among, ended_of, Follow}

module _ {T : Type 0} where
  pub of_append : (giver : T → ℕ) (f : ℕ) (xs ys : List T) → of giver f (xs ++ ys) ≡ of giver f xs ++ of giver f ys
  of_append giver f [] ys = refl
  of_append giver f (x ∷ xs) ys = by_test (nat_eq (giver x) f) (of_append giver f xs ys)
    where
      by_test : (b : Bool) → of giver f (xs ++ ys) ≡ of giver f xs ++ of giver f ys → cond b (x ∷ of giver f (xs ++ ys)) (of giver f (xs ++ ys)) ≡ cond b (x ∷ of giver f xs) (of giver f xs) ++ of giver f ys
      by_test true h = ap (λ (zs : List T). x ∷ zs) h
      by_test false h = h

  pub of_one : (giver : T → ℕ) (f : ℕ) (x : T) → giver x ≡ f → of giver f (x ∷ []) ≡ x ∷ []
  of_one giver f x is = ap (λ (b : Bool). cond b (x ∷ []) []) (eq-eqb (giver x) f is)

  pub of_none : (giver : T → ℕ) (f : ℕ) (x : T) → giver x ≢ f → of giver f (x ∷ []) ≡ []
  of_none giver f x apart = by_test (eqb_tells (giver x) f)
    where
      by_test : ((nat_eq (giver x) f ≡ true) × (giver x ≡ f)) ⊎ ((nat_eq (giver x) f ≡ false) × (giver x ≢ f)) → cond (nat_eq (giver x) f) (x ∷ []) [] ≡ []
      by_test (inl t) = absurd (apart t.1)
      by_test (inr t) = ap (λ (b : Bool). cond b (x ∷ []) []) t.0

  -- one item more of f
  pub of_more : (giver : T → ℕ) (f : ℕ) (xs : List T) (x : T) → giver x ≡ f → of giver f (xs ++ x ∷ []) ≡ of giver f xs ++ x ∷ []
  of_more giver f xs x is = of_append giver f xs (x ∷ []) ∙ ap (λ (zs : List T). of giver f xs ++ zs) (of_one giver f x is)

  -- one item more of another
  pub of_other : (giver : T → ℕ) (f : ℕ) (xs : List T) (x : T) → giver x ≢ f → of giver f (xs ++ x ∷ []) ≡ of giver f xs
  of_other giver f xs x apart = of_append giver f xs (x ∷ []) ∙ ap (λ (zs : List T). of giver f xs ++ zs) (of_none giver f x apart) ∙ append-nil (of giver f xs)

  pub among_left : (x : T) (xs ys : List T) → Among x xs → Among x (xs ++ ys)
  among_left x [] ys at = absurd at
  among_left x (z ∷ zs) ys (inl is) = inl is
  among_left x (z ∷ zs) ys (inr at) = inr (among_left x zs ys at)

  pub among_right : (x : T) (xs ys : List T) → Among x ys → Among x (xs ++ ys)
  among_right x [] ys at = at
  among_right x (z ∷ zs) ys at = inr (among_right x zs ys at)

  pub among_either : (x : T) (xs ys zs : List T) → (Among x xs → Among x zs) → (Among x ys → Among x zs) → Among x (xs ++ ys) → Among x zs
  among_either x [] ys zs f g at = g at
  among_either x (w ∷ ws) ys zs f g (inl is) = f (inl is)
  among_either x (w ∷ ws) ys zs f g (inr at) = among_either x ws ys zs (λ a. f (inr a)) g at

  pub among_both : (x : T) (xs ys zs ws : List T) → (Among x xs → Among x zs) → (Among x ys → Among x ws) → Among x (xs ++ ys) → Among x (zs ++ ws)
  among_both x xs ys zs ws f g at = among_either x xs ys (zs ++ ws) (λ a. among_left x zs ws (f a)) (λ a. among_right x zs ws (g a)) at

  head_is : (x : T) (xs : List T) (y : T) (ys : List T) → x ∷ xs ≡ y ∷ ys → x ≡ y
  head_is x xs y ys e = cc

  tail_is : (x : T) (xs : List T) (y : T) (ys : List T) → x ∷ xs ≡ y ∷ ys → xs ≡ ys
  tail_is x xs y ys e = cc

  not_empty : (y : T) (ys : List T) → [] ≡ y ∷ ys → ⊥
  not_empty y ys e = cc

  pub nothing_there : (front : List T) (y : T) (back : List T) → [] ≡ front ++ y ∷ back → ⊥
  nothing_there [] y back e = not_empty y back e
  nothing_there (g ∷ gs) y back e = not_empty g (gs ++ y ∷ back) e

  -- an item of a list with one more at its end is the last, or stands in the list
  pub last_or_before : (xs : List T) (x : T) (front : List T) (y : T) (back : List T) → xs ++ x ∷ [] ≡ front ++ y ∷ back → ((front ≡ xs) × (y ≡ x)) ⊎ ((rest : List T) × (xs ≡ front ++ y ∷ rest))
  last_or_before [] x [] y back e = inl (refl, sym (head_is x [] y back e))
  last_or_before [] x (f ∷ fs) y back e = absurd (nothing_there fs y back (tail_is x [] f (fs ++ y ∷ back) e))
  last_or_before (z ∷ zs) x [] y back e = inr (zs, ap (λ (w : T). w ∷ zs) (head_is z (zs ++ x ∷ []) y back e))
  last_or_before (z ∷ zs) x (f ∷ fs) y back e =
      further (head_is z (zs ++ x ∷ []) f (fs ++ y ∷ back) e) (last_or_before zs x fs y back (tail_is z (zs ++ x ∷ []) f (fs ++ y ∷ back) e))
    where
      further : z ≡ f → ((fs ≡ zs) × (y ≡ x)) ⊎ ((rest : List T) × (zs ≡ fs ++ y ∷ rest)) → (((f ∷ fs) ≡ (z ∷ zs)) × (y ≡ x)) ⊎ ((rest : List T) × ((z ∷ zs) ≡ (f ∷ fs) ++ y ∷ rest))
      further h (inl t) = inl ((λ i. sym h i ∷ t.0 i), t.1)
      further h (inr t) = inr (t.0, (λ i. h i ∷ t.1 i))

  pub follow_more : (giver : T → ℕ) (Next : List T → T → Type 0) (all : List T) (x : T) → Follow giver Next all → Next (of giver (giver x) all) x → Follow giver Next (all ++ x ∷ [])
  follow_more giver Next all x were is front y back e = by_place (last_or_before all x front y back e)
    where
      by_place : ((front ≡ all) × (y ≡ x)) ⊎ ((rest : List T) × (all ≡ front ++ y ∷ rest)) → Next (of giver (giver y) front) y
      by_place (inl t) = subst (λ (p : List T × T). Next (of giver (giver p.1) p.0) p.1) (λ i. (sym t.0 i, sym t.1 i)) is
      by_place (inr t) = were front y t.0 t.1

-- two seats have no more parts than all
pub two_le : {A : Type 0} (f : A → ℕ) (views : List A) (i j : ℕ) (v u : A) → i ≢ j → get_elem? views i ≡ some v → get_elem? views j ≡ some u → f v + f u ≤ total f views
two_le f [] i j v u apart at there = absurd (some-ne-none v (sym at))
two_le f (x ∷ xs) zero zero v u apart at there = absurd (apart refl)
two_le f (x ∷ xs) zero (suc j) v u apart at there = let e : f x ≡ f v = ap f (some-injective x v at) in let p = part_le f xs j u there in omega arith
two_le f (x ∷ xs) (suc i) zero v u apart at there = let e : f x ≡ f u = ap f (some-injective x u there) in let p = part_le f xs i v at in omega arith
two_le f (x ∷ xs) (suc i) (suc j) v u apart at there = let p = two_le f xs i j v u (λ e. apart (ap suc e)) at there in omega arith

pub same_some : {A : Type 0} (x y : A) → Some x ≡ Some y → x ≡ y
same_some x y e = cc

pub some_is_not_none : {A : Type 0} (x : A) (o : Option A) → o ≡ Some x → o ≡ None → ⊥
some_is_not_none x o e f = apart (sym e ∙ f)
  where
    apart : Some x ≡ None → ⊥
    apart h = cc

pub none_is_not : {A : Type 0} (x : A) → None ≡ Some x → ⊥
none_is_not x e = cc
