-- What a seat may do is as before, whether an item was given or taken, or not.
use Rattle.std.proofs.Common.{◌≡◌, ℕ, List, refl, ap, subst, sym}
use Rattle.std.specs.Prelude.{Option, Some, None, Result, Ok, Err, MatchResult, MatchOption}
use Rattle.px_line.specs.declared.rule.Known.{Known}
use Rattle.px_line.specs.Lines.{Keeps, Held, Learns, Takes, Waits, with_given, with_taken}

module _ {T : Type 0} where
  as_before : (v w u : Known T) → w ≡ u → Keeps v u → Keeps v w
  as_before v w u is k = subst (Keeps v) (sym is) k

  pub kept_give : (giver : T → ℕ) (n : ℕ) (r : Result (Unit {0}) T) (v w : Known T) (x : T) → MatchResult r (λ _. w ≡ with_given v x) (λ back. (back ≡ x) × (w ≡ v) × Held n (Waits giver v)) → Keeps v w
  kept_give giver n (Ok _) v w x h = as_before v w (with_given v x) h (refl, refl, refl, refl, refl)
  kept_give giver n (Err back) v w x h = as_before v w v h.1 (refl, refl, refl, refl, refl)

  pub kept_take : (giver : T → ℕ) (Next : List T → T → Type 0) (r : Option T) (v w : Known T) → MatchOption r ((w ≡ v) × Held 0 (Learns giver Next v)) (λ x. Takes giver Next v x w) → Keeps v w
  kept_take giver Next None v w h = as_before v w v h.0 (refl, refl, refl, refl, refl)
  kept_take giver Next (Some x) v w h = as_before v w (with_taken v x) h.0 (refl, refl, refl, refl, refl)
