-- Jobs of one giver stand in the order in which they were given.
use Rattle.std.proofs.Common.{◌≡◌, ℕ, ◌<◌, List, [], ◌∷◌, ◌++◌, refl, sym, ap, ◌∙◌, subst, append-nil, arith}
use Rattle.std.specs.Prelude.{Option, Some, None, Result, Ok, Err, MatchResult, MatchOption}
use Rattle.px_rule.specs.Banks.{total}
use Rattle.px_line.specs.declared.rule.Known.{Known}
use Rattle.px_line.specs.Lines.{of, ended_of, Among, Held, Waits, Learns, Takes, with_given}
use Rattle.px_jobs.specs.declared.job.Job.{Job}
use Rattle.px_jobs.specs.Jobs.{AllUnder, AllOver, Rises, WasFull, AllTaken, or_nothing}

module _ {L : Type 0} where
  abbrev giver : Job L → ℕ
  giver x = 0

  abbrev Next : List (Job L) → Job L → Type 0
  Next given job = AllUnder job.number given

  one_giver : (xs : List (Job L)) → of giver 0 xs ≡ xs
  one_giver [] = refl
  one_giver (x ∷ xs) = ap (λ (l : List (Job L)). x ∷ l) (one_giver xs)

  rises : (xs : List (Job L)) → ((front : List (Job L)) (y : Job L) (back : List (Job L)) → xs ≡ front ++ y ∷ back → AllUnder y.number front) → Rises xs
  rises [] under = tt
  rises (x ∷ xs) under =
      (over xs (λ front y back e. (under (x ∷ front) y back (ap (λ (l : List (Job L)). x ∷ l) e)).0), rises xs (λ front y back e. (under (x ∷ front) y back (ap (λ (l : List (Job L)). x ∷ l) e)).1))
    where
      over : (ys : List (Job L)) → ((front : List (Job L)) (y : Job L) (back : List (Job L)) → ys ≡ front ++ y ∷ back → x.number < y.number) → AllOver x.number ys
      over [] more = tt
      over (y ∷ ys) more = (more [] y ys refl, over ys (λ front z back e. more (y ∷ front) z back (ap (λ (l : List (Job L)). y ∷ l) e)))

  was_full : (n : ℕ) (v : Known (Job L)) → n ≡ 1024 → v.gives ≡ Some 0 → Held n (Waits giver v) → WasFull v.given
  was_full n v is mine h = let w = h.2 0 mine in (w.0, h.0, h.1 ∙ is, w.1 ∙ one_giver (w.0 ++ h.0))

  pub gave : (n : ℕ) (r : Result (Unit {0}) (Job L)) (v w : Known (Job L)) (x : Job L) (given : List (Job L)) → given ≡ v.given → n ≡ 1024 → v.gives ≡ Some 0
      → MatchResult r (λ _. w ≡ with_given v x) (λ back. (back ≡ x) × (w ≡ v) × Held n (Waits giver v))
      → MatchResult r (λ _. w.given ≡ given ++ x ∷ []) (λ back. (back ≡ x) × (w.given ≡ given) × WasFull given)
  gave n (Ok _) v w x given same is mine h = ap (λ (k : Known (Job L)). k.given) h ∙ ap (λ (l : List (Job L)). l ++ x ∷ []) (sym same)
  gave n (Err back) v w x given same is mine h = (h.0, ap (λ (k : Known (Job L)). k.given) h.1 ∙ sym same, subst WasFull (sym same) (was_full n v is mine h.2))

  pub took : (r : Option (Job L)) (v w : Known (Job L)) → MatchOption r ((w ≡ v) × Held 0 (Learns giver Next v)) (λ job. Takes giver Next v job w)
      → MatchOption r (w.taken ≡ v.taken) (λ job. w.taken ≡ v.taken ++ job ∷ [])
  took None v w h = ap (λ (k : Known (Job L)). k.taken) h.0
  took (Some job) v w h = ap (λ (k : Known (Job L)). k.taken) h.0

  all_taken : (v : Known (Job L)) (given : List (Job L)) → v.parts ≡ 66 → ended_of 0 v.ended ≡ Some given → Held 0 (Learns giver Next v) → AllTaken given v.taken
  all_taken v given whole ended ((x ∷ items), long, l) = absurd (omega arith)
  all_taken v given whole ended ([], long, l) =
      let all : l.taken ++ [] ≡ l.taken = append-nil l.taken in
      let is : given ≡ l.taken = l.ended 0 given ended ∙ one_giver (l.taken ++ []) ∙ all in record {
        rises = rises given (λ front y back e. subst (AllUnder y.number) (one_giver front) (l.follow front y back (all ∙ sym is ∙ e)));
        among = λ x at. subst (Among x) (sym is) (l.among x at);
        once = λ h. ap (total h) is ∙ sym (l.once whole h);
      }

  pub took_rest : (r : Option (Job L)) (v w : Known (Job L)) (given taken : List (Job L)) → given ≡ or_nothing (ended_of 0 v.ended) → taken ≡ v.taken → v.parts ≡ 66 → ended_of 0 v.ended ≡ Some (or_nothing (ended_of 0 v.ended)) → MatchOption r ((w ≡ v) × Held 0 (Learns giver Next v)) (λ job. Takes giver Next v job w)
      → MatchOption r ((w.taken ≡ taken) × AllTaken given taken) (λ job. w.taken ≡ taken ++ job ∷ [])
  took_rest None v w given taken same like whole ended h =
      (ap (λ (k : Known (Job L)). k.taken) h.0 ∙ sym like, subst (AllTaken given) (sym like) (all_taken v given whole (ended ∙ ap (λ (l : List (Job L)). Some l) (sym same)) h.1))
  took_rest (Some job) v w given taken same like whole ended h = ap (λ (k : Known (Job L)). k.taken) h.0 ∙ ap (λ (l : List (Job L)). l ++ job ∷ []) (sym like)
