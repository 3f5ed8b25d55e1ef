-- The others meet notes of the first, one after the other.
use Rattle.std.proofs.Common.{◌≡◌, ◌≢◌, ℕ, suc, ◌+◌, ◌≤◌, ◌<◌, ◌⊎◌, inl, inr, true, false, leb, leb-true, leb-false, List, [], get_or, set, length, refl, sym, ap, ◌∙◌, subst, arith}
use Rattle.std.specs.Prelude.{All}
use Rattle.std.proofs.lemmas.List.{length-set, get_or_default, get_or-set_same, get_or-set_other}
use mathlib.Core.Logic.{dite}
use native.Mathlib.Decide.{ℕ_discrete}
use Rattle.px_workload.specs.declared.change.Change.{Change}
use Rattle.px_workload.specs.Changes.{history}
use Rattle.px_xpath.specs.Histories.{IsLegal}
use Rattle.px_rule.specs.Histories.{named}
use Rattle.px_hub.specs.Entries.{who_of}
use Rattle.px_hub.specs.Passes.{PassView}
use Rattle.px_hub.specs.Calls.{Met, seen_of}
use Rattle.px_hub.specs.AllOfThem.{AreClosed}
use Rattle.px_changer.specs.Alone.{AreIdle, HoldEvery, IsAlone, MetAt, AllMet}
use Rattle.px_changer.proofs.Owning.{named_front, all_by_first}

-- those before `at` have met the note, and the others are as they were
pub record Sofar (note : List Change) (at : ℕ) (vs ws : List PassView) : Type 0 where
  pub as_many : length ws ≡ length vs
  pub done : (k : ℕ) (d : PassView) → k < at → k < length vs → Met note (get_or vs k d) (get_or ws k d)
  pub rest : (k : ℕ) (d : PassView) → at ≤ k → get_or ws k d ≡ get_or vs k d

module _ (note : List Change) where
  pub none_yet : (vs : List PassView) → Sofar note 0 vs vs
  none_yet vs = record { as_many = refl; done = λ k d low. absurd (omega arith); rest = λ k d high. refl }

  pub one_more : (at : ℕ) (vs us ws : List PassView) → Sofar note at vs us → at < length us → MetAt note at us ws → Sofar note (at + 1) vs ws
  one_more at vs us ws s within m = subst (λ l. Sofar note (at + 1) vs l) (sym m.1) (record {
    as_many = length-set us at m.0 ∙ s.as_many;
    done = λ k d low there. dite (ℕ_discrete k at)
        (λ (here : k ≡ at).
        let now : get_or (set us at m.0) k d ≡ m.0 = ap (λ (j : ℕ). get_or (set us at m.0) j d) here ∙ get_or-set_same us at m.0 d within in
        let was : get_or us at d ≡ get_or vs k d = s.rest at d (omega arith) ∙ ap (λ (j : ℕ). get_or vs j d) (sym here) in
        subst (λ (y : PassView × PassView). Met note y.0 y.1) (λ i. (was i, sym now i)) (m.2 d))
        (λ (no : k ≢ at).
        let now : get_or (set us at m.0) k d ≡ get_or us k d = get_or-set_other us at k m.0 d no in
        subst (λ (y : PassView). Met note (get_or vs k d) y) (sym now) (s.done k d (omega arith) there));
    rest = λ k d high. get_or-set_other us at k m.0 d (λ e. absurd (omega arith)) ∙ s.rest k d (omega arith);
  })

  -- no call is open on any of them
  pub closed_yet : (at : ℕ) (vs ws : List PassView) → Sofar note at vs ws → AreClosed vs → AreClosed ws
  closed_yet at vs ws s closed k d low =
      let there : k < length vs = let same = s.as_many in omega arith in
      elim (leb (suc k) at) as (λ b. leb (suc k) at ≡ b → (get_or ws k d).is_open ≡ false) [
        | true ↦ (λ e. let before = leb-true (suc k) at e in (s.done k d (omega arith) there).machine.is_open ∙ closed k d there)
        | false ↦ (λ e. let behind = leb-false (suc k) at e in ap (λ (p : PassView). p.is_open) (s.rest k d (omega arith)) ∙ closed k d there)
      ] refl

  pub all_met : (vs ws : List PassView) → Sofar note (length vs) vs ws → AllMet note vs ws
  all_met vs ws s = record { as_many = s.as_many; each = λ k d low. s.done k d low low }

-- the pass at a place has met the note
pub met_at : (note : List Change) (at : ℕ) (vs : List PassView) (v w x : PassView) → at < length vs → v ≡ get_or vs at x → Met note v w → MetAt note at vs (set vs at w)
met_at note at vs v w x within is m = (w, refl, λ d. subst (λ (y : PassView). Met note y w) (is ∙ get_or_default vs at x d within) m)

-- the first has made all that it has seen
pub is_alone : (passes : ℕ) (first : PassView) (vs ws : List PassView) → first.is_open ≡ false → AreClosed vs → AreIdle vs → HoldEvery passes first.number vs →
    All (λ c. who_of c < passes) (seen_of first) → IsLegal (history (seen_of first)) → AllMet (seen_of first) vs ws → IsAlone passes first ws
is_alone passes first vs ws first_closed closed idle every below legal met = record {
  first_closed = first_closed;
  closed = λ k d low. (met.each k d (there k low)).machine.is_open ∙ closed k d (there k low);
  idle = none_made;
  every = every_now;
  all_own = all_by_first passes first.number ws first (seen_of first) below every_now quiet;
  legal = legal;
}
  where
    there : (k : ℕ) → k < length ws → k < length vs
    there k low = let same = met.as_many in omega arith

    none_made : AreIdle ws
    none_made k d low = (met.each k d (there k low)).mine ∙ idle k d (there k low)

    every_now : HoldEvery passes first.number ws
    every_now n low =
        elim (every n low) as (λ _. (n ≡ first.number) ⊎ ((k : ℕ) × (k < length ws) × ((d : PassView) → (get_or ws k d).number ≡ n))) [
          | inl same ↦ inl same
          | inr other ↦ inr (other.0, (let same = met.as_many in let low = other.1 in omega arith), λ d. (met.each other.0 d other.1).number ∙ other.2 d)
        ]

    quiet : (k : ℕ) (d : PassView) → k < length ws → named who_of (get_or ws k d).number (seen_of first) ≡ []
    quiet k d low =
        let m = met.each k d (there k low) in
        let p = (get_or ws k d).number in
        named_front p (seen_of first) m.noted.0 (ap (named who_of p) (sym m.noted.1) ∙ m.own ∙ none_made k d low)
