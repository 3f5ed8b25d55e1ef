-- How a table of guards grows.
use Rattle.std.proofs.Common.{◌≡◌, ℕ, zero, suc, ◌+◌, ◌<◌, ◌≤◌, inl, inr, ◌||◌, not, Bool, true, false, cond, List, [], ◌∷◌, ◌++◌, length, take, get_or, Option, Some, None, refl, sym, ◌∙◌, ap, subst, arith, nat_eq}
use Rattle.std.specs.Prelude.{slice_get}
use Rattle.std.proofs.lemmas.Bool.{ne_eqb, eqb-true, eqb-false, cases_lt}
use Rattle.std.proofs.lemmas.Option.{get_or_from_slice_get, slice_get_past}
use Rattle.px_afa.specs.declared.state.Body.{Body}
use Rattle.px_afa.specs.declared.state.Body.TheVariants as bodies
use Rattle.px_afa.specs.declared.state.State.{State}
use Rattle.px_afa.specs.declared.state.State.TheVariants as state
use Rattle.px_afa.specs.Truth.{state_at}
use Rattle.px_afa.specs.Building.{newest}
use Rattle.px_afa.specs.Tables.{rarer, is_rare, guard_of_parts, guard_state, guard_of, body_guard}
use Rattle.px_afa.specs.Lists.{flat}
use Rattle.px_afa.specs.Kept.{AreGuards}
use Rattle.px_afa.proofs.StatesByNumber.{newest-length, newest-at}
use Rattle.px_afa.proofs.Newest.{newest_next}

get_end : {X : Type 0} (xs : List X) (x : X) → slice_get (xs ++ x ∷ []) (length xs) ≡ Some x
get_end [] x = refl
get_end (y ∷ xs) x = get_end xs x

get_other : {X : Type 0} (xs : List X) (x : X) (k : ℕ) → (k ≡ length xs → ⊥) → slice_get (xs ++ x ∷ []) k ≡ slice_get xs k
get_other [] x zero h = absurd (h refl)
get_other [] x (suc k) h = refl
get_other (y ∷ xs) x zero h = refl
get_other (y ∷ xs) x (suc k) h = get_other xs x k (λ e. h (ap suc e))

guards_more : (guards : List (Option ℕ)) (guard : Option ℕ) (before : List State) (s : State) → length guards ≡ length before → AreGuards guards before →
    guard ≡ guard_state s (length before) (λ g. is_rare (state_at before g)) (guard_of before) → AreGuards (guards ++ guard ∷ []) (s ∷ before)
guards_more guards guard before s long are is k = go (nat_eq k (length before)) refl
  where
    go : (b : Bool) → nat_eq k (length before) ≡ b → flat (slice_get (guards ++ guard ∷ []) k) ≡ cond b (guard_state s k (λ g. is_rare (state_at before g)) (guard_of before)) (guard_of before k)
    go true e =
        let at : k ≡ length before = eqb-true k (length before) e in
        ap (λ n. flat (slice_get (guards ++ guard ∷ []) n)) (at ∙ sym long)
        ∙ (ap flat (get_end guards guard) ∙ (is ∙ ap (λ n. guard_state s n (λ g. is_rare (state_at before g)) (guard_of before)) (sym at)))
    go false e = ap flat (get_other guards guard k (λ f. eqb-false k (length before) e (f ∙ long))) ∙ are k

-- the same in a loop over the states
pub guards_next : (states : List State) (n : ℕ) (x : State) (guards grown : List (Option ℕ)) (guard : Option ℕ) → n < length states → x ≡ get_or states n x →
    length guards ≡ n → AreGuards guards (newest (take n states)) → guard ≡ guard_state x n (λ g. is_rare (state_at (newest (take n states)) g)) (guard_of (newest (take n states))) →
    grown ≡ guards ++ guard ∷ [] → AreGuards grown (newest (take (n + 1) states))
guards_next states n x guards grown guard less at long are is more =
    let before = newest (take n states) in
    let count : length before ≡ n = newest-length (take n states) ∙ take_length states n less in
    subst (AreGuards grown) (sym (newest_next states n (n + 1) x less at refl))
    (rw more (guards_more guards guard before x (long ∙ sym count) are (is ∙ ap (λ m. guard_state x m (λ g. is_rare (state_at before g)) (guard_of before)) (sym count))))
  where
    take_length : (xs : List State) (m : ℕ) → m < length xs → length (take m xs) ≡ m
    take_length [] m h = absurd (omega arith)
    take_length (y ∷ xs) zero h = refl
    take_length (y ∷ xs) (suc m) h = ap suc (take_length xs m (omega arith))

-- a guard is a state
rarer-below : (is_rare : ℕ → Bool) (a b : Option ℕ) (g : ℕ) → rarer is_rare a b ≡ Some g → (P : Type 0) → (a ≡ Some g → P) → (b ≡ Some g → P) → P
rarer-below is_rare None b g e P f h = h e
rarer-below is_rare (Some x) None g e P f h = f e
rarer-below is_rare (Some x) (Some y) g e P f h = go (is_rare x || not (is_rare y)) e
  where
    go : (t : Bool) → cond t (Some x) (Some y) ≡ Some g → P
    go true e' = f e'
    go false e' = h e'

parts-below : (is_rare : ℕ → Bool) (part : ℕ → Option ℕ) (g most : ℕ) → ((p : ℕ) → part p ≡ Some g → g < most) → (parts : List ℕ) → guard_of_parts is_rare part parts ≡ Some g → g < most
parts-below is_rare part g most each [] e = cc
parts-below is_rare part g most each (p ∷ parts) e =
    rarer-below is_rare (part p) (guard_of_parts is_rare part parts) g e (g < most) (each p) (parts-below is_rare part g most each parts)

pub guard-below : (states : List State) (n g : ℕ) → guard_of states n ≡ Some g → g < length states
guard-below [] n g e = cc
guard-below (s ∷ before) n g e = go (nat_eq n (length before)) refl e (λ p. guard-below before p g)
  where
    newer : (s : State) → n ≡ length before → guard_state s n (λ x. is_rare (state_at before x)) (guard_of before) ≡ Some g → ((p : ℕ) → guard_of before p ≡ Some g → g < length before) → g < suc (length before)
    newer (state.Path axis asked body) at e' ih = let same : n ≡ g = cc in omega arith
    newer (state.Value r wanted) at e' ih = let same : n ≡ g = cc in omega arith
    newer (state.And parts) at e' ih = let less = parts-below (λ x. is_rare (state_at before x)) (guard_of before) g (length before) ih parts e' in omega arith
    newer (state.Or parts) at e' ih = cc
    newer (state.Not part) at e' ih = cc

    go : (b : Bool) → nat_eq n (length before) ≡ b → cond b (guard_state s n (λ x. is_rare (state_at before x)) (guard_of before)) (guard_of before n) ≡ Some g →
        ((p : ℕ) → guard_of before p ≡ Some g → g < length before) → g < suc (length before)
    go true f e' ih = newer s (eqb-true n (length before) f) e' ih
    go false f e' ih = let less = ih n e' in omega arith

pub body_guard-below : (states : List State) (body : Body) (g : ℕ) → body_guard states body ≡ Some g → g < length states
body_guard-below states bodies.Always g e = cc
body_guard-below states (bodies.State n) g e = guard-below states n g e

-- a state by its place in the list
pub newest_get : (states : List State) (n : ℕ) → state_at (newest states) n ≡ slice_get states n
newest_get states n = elim (cases_lt n (length states)) [
  | inl less ↦ (let there = slice_get-some states n less in newest-at states n there.0 less (sym (get_or_from_slice_get states n there.0 there.0 there.1)) ∙ sym there.1)
  | inr past ↦ state_at-past (newest states) n (let long = newest-length states in omega arith) ∙ sym (slice_get_past states n past)
]
  where
    slice_get-some : (xs : List State) (k : ℕ) → k < length xs → (x : State) × (slice_get xs k ≡ Some x)
    slice_get-some [] k h = absurd (omega arith)
    slice_get-some (x ∷ xs) zero h = (x, refl)
    slice_get-some (x ∷ xs) (suc k) h = slice_get-some xs k (omega arith)

    state_at-past : (xs : List State) (k : ℕ) → length xs ≤ k → state_at xs k ≡ None
    state_at-past [] k h = refl
    state_at-past (x ∷ xs) k h = let e : nat_eq k (length xs) ≡ false = ne_eqb k (length xs) (λ f. omega arith) in rw e (state_at-past xs k (omega arith))

pub rare_some : (states : List State) (n : ℕ) (x : State) (is : Bool) → n < length states → x ≡ get_or states n x → is ≡ is_rare (Some x) → is ≡ is_rare (state_at (newest states) n)
rare_some states n x is less at e = e ∙ ap is_rare (sym (newest-at states n x less at))

pub rare_none : (states : List State) (n : ℕ) → length states ≤ n → false ≡ is_rare (state_at (newest states) n)
rare_none states n past = ap is_rare (sym (newest_get states n ∙ slice_get_past states n past))
