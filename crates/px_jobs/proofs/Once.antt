-- Each job that was given and taken.
use Rattle.std.proofs.Common.{◌≡◌, ℕ, ◌<◌, ◌≤◌, eqb, List, [], ◌∷◌, refl, sym, ap, ◌∙◌, subst, arith, eq-eqb, ne_eqb}
use mathlib.Core.Logic.{dite, inl, inr}
use native.Mathlib.Decide.{ℕ_discrete}
use Rattle.px_rule.specs.Banks.{one_if}
use Rattle.px_line.specs.Lines.{Among}
use Rattle.px_jobs.specs.declared.job.Job.{Job}
use Rattle.px_jobs.specs.Jobs.{AllTaken, Rises, AllOver, of_number}

module _ {L : Type 0} where
  abbrev number : Job L → ℕ
  number job = job.number

  over : (n : ℕ) (xs : List (Job L)) (y : Job L) → AllOver n xs → Among y xs → n < number y
  over n [] y a at = absurd at
  over n (x ∷ xs) y a (inl is) = subst (λ (z : Job L). n < number z) (sym is) a.0
  over n (x ∷ xs) y a (inr at) = over n xs y a.1 at

  pub same_item : (xs : List (Job L)) (x y : Job L) → Rises xs → Among x xs → Among y xs → number x ≡ number y → x ≡ y
  same_item [] x y r at bt e = absurd at
  same_item (z ∷ zs) x y r (inl a) (inl b) e = a ∙ sym b
  same_item (z ∷ zs) x y r (inl a) (inr b) e = let o = over (number z) zs y r.0 b in let f = ap number a in absurd (omega arith)
  same_item (z ∷ zs) x y r (inr a) (inl b) e = let o = over (number z) zs x r.0 a in let f = ap number b in absurd (omega arith)
  same_item (z ∷ zs) x y r (inr a) (inr b) e = same_item zs x y r.1 a b e

  one_of : (x : Job L) → one_if (eqb (number x) (number x)) ≡ 1
  one_of x = ap one_if (eq-eqb (number x) (number x) refl)

  there : (x : Job L) (xs : List (Job L)) → Among x xs → 0 < of_number (number x) xs
  there x [] at = absurd at
  there x (y ∷ ys) (inl is) = let o = one_of x in let e : one_if (eqb (number y) (number x)) ≡ one_if (eqb (number x) (number x)) = ap (λ (z : Job L). one_if (eqb (number z) (number x))) (sym is) in omega arith
  there x (y ∷ ys) (inr at) = let r = there x ys at in omega arith

  none_over : (n : ℕ) (xs : List (Job L)) → AllOver n xs → of_number n xs ≡ 0
  none_over n [] a = refl
  none_over n (x ∷ xs) a = let r = none_over n xs a.1 in let z : one_if (eqb (number x) n) ≡ 0 = ap one_if (ne_eqb (number x) n (λ e. let l = a.0 in absurd (omega arith))) in omega arith

  at_most_one : (n : ℕ) (xs : List (Job L)) → Rises xs → of_number n xs ≤ 1
  at_most_one n [] r = omega arith
  at_most_one n (x ∷ xs) r = dite (ℕ_discrete (number x) n)
      (λ is. let z = none_over n xs (subst (λ m. AllOver m xs) is r.0) in let o : one_if (eqb (number x) n) ≡ 1 = ap one_if (eq-eqb (number x) n is) in omega arith)
      (λ apart. let z : one_if (eqb (number x) n) ≡ 0 = ap one_if (ne_eqb (number x) n apart) in let m = at_most_one n xs r.1 in omega arith)

  found : (n : ℕ) (xs : List (Job L)) → 0 < of_number n xs → (y : Job L) × Among y xs × (number y ≡ n)
  found n [] some = absurd (omega arith)
  found n (x ∷ xs) some = dite (ℕ_discrete (number x) n) (λ is. (x, inl refl, is))
      (λ apart. let z : one_if (eqb (number x) n) ≡ 0 = ap one_if (ne_eqb (number x) n apart) in let r = found n xs (omega arith) in (r.0, inr r.1, r.2))

  pub each_once : (given taken : List (Job L)) (x : Job L) → AllTaken given taken → Among x given → Among x taken × (of_number (number x) taken ≡ 1)
  each_once given taken x all at =
      let h = all.once (λ (y : Job L). one_if (eqb (number y) (number x))) in
      let some = there x given at in
      let most = at_most_one (number x) given all.rises in
      let y = found (number x) taken (omega arith) in
      let same = same_item given y.0 x all.rises (all.among y.0 y.1) at y.2 in
      (subst (λ (z : Job L). Among z taken) same y.1, omega arith)
