-- What a pass has seen behind a join goes on from both histories.
use Rattle.std.proofs.Common.{◌≡◌, ℕ, true, List, ◌∷◌, sym, subst, refl}
use Rattle.px_rule.specs.declared.view.View.{View}
use Rattle.px_rule.specs.Histories.{Begins}
use Rattle.px_rule.specs.Rule.{is_pass}
use Rattle.px_rule.specs.Steps.{Told, IsTold, IsMet, whole_met, joined}
use Rattle.px_rule.proofs.Beginnings.{begins_beside}
use Rattle.px_rule.proofs.Views.{all_at}
use Rattle.px_rule.proofs.Seats.{joined_pass, longer_is, sees_note}

module _ {E : Type 0} (who : E → ℕ) (legal : List E → Type 0) (v u : View E) where
  -- what a pass has seen goes on from what it had seen before
  pub goes_on : (top : ℕ) → Told who legal (whole_met v u).past top → Begins v.past.seen (whole_met v u).past.seen
  goes_on top told =
      let before : Begins v.past.seen told.log = all_at (λ o. Begins o told.log) (v.past.seen ∷ u.past.seen ∷ v.past.olds) 0 v.past.seen refl told.olds in
      begins_beside v.past.seen (whole_met v u).past.seen told.log before told.seen (longer_is v.past.seen u.past.seen)

  -- and from the note's history
  pub met_known : is_pass v.past.kind ≡ true → IsTold who legal (joined v u) → IsMet v u (joined v u)
  met_known pass told =
      let met = joined_pass v u pass in
      let known : Told who legal (whole_met v u).past told.0 = subst (λ (w : View E). Told who legal w.past told.0) met told.1 in
      subst (λ (w : View E). IsMet v u w) (sym met) (goes_on told.0 known, sees_note who legal v u told.0 known)
