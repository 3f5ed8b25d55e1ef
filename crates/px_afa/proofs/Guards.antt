-- A state is true only in sets that have its guard.
use Rattle.std.proofs.Common.{◌≡◌, ℕ, ◌||◌, not, Bool, true, false, cond, List, [], ◌∷◌, length, sym, ◌∙◌, ap, nat_eq, Option, Some, None}
use Rattle.std.specs.List.{list_all}
use Rattle.std.proofs.lemmas.Bool.{and_parts}
use Rattle.px_afa.specs.declared.state.Body.{Body}
use Rattle.px_afa.specs.declared.state.Body.TheVariants as bodies
use Rattle.px_afa.specs.declared.state.State.{State}
use Rattle.px_afa.specs.declared.state.State.TheVariants as state
use Rattle.px_afa.specs.Truth.{state_at}
use Rattle.px_afa.specs.Sets.{true_in, state_in, body_in}
use Rattle.px_afa.specs.Tables.{rarer, is_rare, guard_of_parts, guard_state, guard_of, body_guard}

rarer-one : (is_rare : ℕ → Bool) (a b : Option ℕ) (g : ℕ) → rarer is_rare a b ≡ Some g → (P : Type 0) → (a ≡ Some g → P) → (b ≡ Some g → P) → P
rarer-one is_rare None b g e P f h = h e
rarer-one is_rare (Some x) None g e P f h = f e
rarer-one is_rare (Some x) (Some y) g e P f h = go (is_rare x || not (is_rare y)) e
  where
    go : (t : Bool) → cond t (Some x) (Some y) ≡ Some g → P
    go true e' = f e'
    go false e' = h e'

parts-guard : (is_rare : ℕ → Bool) (part : ℕ → Option ℕ) (truth set : ℕ → Bool) (g : ℕ) → ((p : ℕ) → truth p ≡ true → part p ≡ Some g → set g ≡ true) →
    (parts : List ℕ) → list_all truth parts ≡ true → guard_of_parts is_rare part parts ≡ Some g → set g ≡ true
parts-guard is_rare part truth set g each [] h e = cc
parts-guard is_rare part truth set g each (p ∷ parts) h e =
    let both = and_parts (truth p) (list_all truth parts) h in
    rarer-one is_rare (part p) (guard_of_parts is_rare part parts) g e (set g ≡ true) (each p both.0) (parts-guard is_rare part truth set g each parts both.1)

pub guard-in : (states : List State) (set : ℕ → Bool) (m g : ℕ) → true_in states set m ≡ true → guard_of states m ≡ Some g → set g ≡ true
guard-in [] set m g h e = cc
guard-in (s ∷ before) set m g h e = go (nat_eq m (length before)) h e (λ p. guard-in before set p g)
  where
    newest : (s : State) → state_in s set m (true_in before set) ≡ true → guard_state s m (λ x. is_rare (state_at before x)) (guard_of before) ≡ Some g →
        ((p : ℕ) → true_in before set p ≡ true → guard_of before p ≡ Some g → set g ≡ true) → set g ≡ true
    newest (state.Path axis asked body) h' e' ih = let same : m ≡ g = cc in ap set (sym same) ∙ h'
    newest (state.Value r wanted) h' e' ih = let same : m ≡ g = cc in ap set (sym same) ∙ h'
    newest (state.And parts) h' e' ih = parts-guard (λ x. is_rare (state_at before x)) (guard_of before) (true_in before set) set g ih parts h' e'
    newest (state.Or parts) h' e' ih = cc
    newest (state.Not part) h' e' ih = cc

    go : (b : Bool) → cond b (state_in s set m (true_in before set)) (true_in before set m) ≡ true →
        cond b (guard_state s m (λ x. is_rare (state_at before x)) (guard_of before)) (guard_of before m) ≡ Some g →
        ((p : ℕ) → true_in before set p ≡ true → guard_of before p ≡ Some g → set g ≡ true) → set g ≡ true
    go true h' e' ih = newest s h' e' ih
    go false h' e' ih = ih m h' e'

pub body-guard-in : (states : List State) (set : ℕ → Bool) (body : Body) (g : ℕ) → body_in (true_in states set) body ≡ true → body_guard states body ≡ Some g → set g ≡ true
body-guard-in states set bodies.Always g h e = cc
body-guard-in states set (bodies.State n) g h e = guard-in states set n g h e
