-- A job that was given or not, below the next number.
use Rattle.std.proofs.Common.{◌≡◌, ℕ, ◌+◌, List, [], ◌∷◌, ◌++◌, subst, sym, arith}
use Rattle.std.specs.Prelude.{Result, Ok, Err, MatchResult}
use Rattle.px_jobs.specs.declared.job.Job.{Job}
use Rattle.px_jobs.specs.Jobs.{AllUnder, WasFull}

module _ {L : Type 0} where
  under_more : (n : ℕ) (xs : List (Job L)) → AllUnder n xs → AllUnder (n + 1) xs
  under_more n [] u = tt
  under_more n (x ∷ xs) u = (let low = u.0 in omega arith, under_more n xs u.1)

  under_last : (xs : List (Job L)) (x : Job L) → AllUnder x.number xs → AllUnder (x.number + 1) (xs ++ x ∷ [])
  under_last [] x u = (omega arith, tt)
  under_last (y ∷ ys) x u = (let low = u.0 in omega arith, under_last ys x u.1)

  pub under_next : (r : Result (Unit {0}) (Job L)) (old new : List (Job L)) (x : Job L) → MatchResult r (λ _. new ≡ old ++ x ∷ []) (λ back. (back ≡ x) × (new ≡ old) × WasFull old) → AllUnder x.number old → AllUnder (x.number + 1) new
  under_next (Ok _) old new x is u = subst (AllUnder (x.number + 1)) (sym is) (under_last old x u)
  under_next (Err back) old new x is u = subst (AllUnder (x.number + 1)) (sym is.1) (under_more x.number old u)
