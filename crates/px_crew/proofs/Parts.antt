-- Sums over the views of all seats, where each seat has parts of the right to know the whole.
use Rattle.std.proofs.Common.{◌≡◌, ℕ, zero, suc, ◌+◌, List, [], ◌∷◌, ◌++◌, refl, sym, ap, arith}
use mathlib.Core.Option.{some, some-ne-none, some-injective}
use lib.ListN.{get_elem?}
use Rattle.px_rule.specs.Banks.{total}
use Rattle.px_rule.proofs.Views.{part_le}

module _ {A : Type 0} where
  pub total-append : (f : A → ℕ) (xs ys : List A) → total f (xs ++ ys) ≡ total f xs + total f ys
  total-append f [] ys = omega arith
  total-append f (x ∷ xs) ys = let r = total-append f xs ys in omega arith

  -- where no seat has a part
  none : (parts f : A → ℕ) (views : List A) → ((j : ℕ) (u : A) → get_elem? views j ≡ some u → parts u ≡ 0 → f u ≡ 0) → total parts views ≡ 0 → total f views ≡ 0
  none parts f [] idle all = refl
  none parts f (x ∷ xs) idle all = let a = idle 0 x refl (let q : parts x ≡ 0 = omega arith in q) in let b = none parts f xs (λ j u e. idle (suc j) u e) (let q : total parts xs ≡ 0 = omega arith in q) in omega arith

  -- where one seat has every part, the others, which have none, add nothing
  pub sole : (parts f : A → ℕ) (views : List A) (i : ℕ) (v : A) → ((j : ℕ) (u : A) → get_elem? views j ≡ some u → parts u ≡ 0 → f u ≡ 0) → get_elem? views i ≡ some v → total parts views ≡ parts v → total f views ≡ f v
  sole parts f [] i v idle at all = absurd (some-ne-none v (sym at))
  sole parts f (x ∷ xs) zero v idle at all =
      let same : x ≡ v = some-injective x v at in
      let p : parts x ≡ parts v = ap parts same in
      let r = none parts f xs (λ j u e. idle (suc j) u e) (let q : total parts xs ≡ 0 = omega arith in q) in
      let e = ap f same in omega arith
  sole parts f (x ∷ xs) (suc i) v idle at all =
      let q = part_le parts xs i v at in
      let z : parts x ≡ 0 = omega arith in
      let a = idle 0 x refl z in
      let r = sole parts f xs i v (λ j u e. idle (suc j) u e) at (omega arith) in omega arith
