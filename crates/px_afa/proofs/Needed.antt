-- A set that agrees with the truth on what a state needs gives that state its truth.
use Rattle.std.proofs.Common.{◌≡◌, ℕ, suc, ◌<◌, Bool, true, false, not, ◌&&◌, ◌||◌, cond, List, [], ◌∷◌, length, refl, sym, ◌∙◌, ap, arith, nat_eq, Option, Some}
use Rattle.std.specs.List.{list_any, list_all}
use Rattle.std.proofs.lemmas.Bool.{eq-eqb, ne_eqb, eqb-true, or_left, or_right}
use Rattle.px_afa.specs.declared.state.State.{State}
use Rattle.px_afa.specs.declared.state.State.TheVariants as state
use Rattle.px_afa.specs.Contents.{Content}
use Rattle.px_afa.specs.Truth.{state_at, true_at, state_holds}
use Rattle.px_afa.specs.Sets.{true_in, state_in, needs, need_state}
use Rattle.px_afa.proofs.StatesByNumber.{state_at-older}

-- some member needs it
any_below : (need : ℕ → ℕ → Bool) (bound k : ℕ) → ((p : ℕ) → need p k ≡ true → k < bound) → (parts : List ℕ) →
    list_any (λ p. need p k) parts ≡ true → k < bound
any_below need bound k each [] h = cc
any_below need bound k each (p ∷ parts) h = go (need p k) refl h (any_below need bound k each parts)
  where
    go : (b : Bool) → need p k ≡ b → (b || list_any (λ q. need q k) parts) ≡ true → (list_any (λ q. need q k) parts ≡ true → k < bound) → k < bound
    go true e h' rest = each p e
    go false e h' rest = rest h'

-- what a state needs has a number below the number of states
pub needs-below : (states : List State) (m k : ℕ) → needs states m k ≡ true → k < length states
needs-below [] m k h = cc
needs-below (s ∷ before) m k h = go (nat_eq m (length before)) refl h (λ p. needs-below before p k)
  where
    of_state : (s : State) → m ≡ length before → ((p : ℕ) → needs before p k ≡ true → k < length before) → need_state s m (needs before) k ≡ true → k < suc (length before)
    of_state (state.Path axis asked body) e ih n = let same : m ≡ k = eqb-true m k n in omega arith
    of_state (state.And parts) e ih n = let less = any_below (needs before) (length before) k ih parts n in omega arith
    of_state (state.Or parts) e ih n = let less = any_below (needs before) (length before) k ih parts n in omega arith
    of_state (state.Not part) e ih n = let less = ih part n in omega arith
    of_state (state.Value r x) e ih n = let same : m ≡ k = eqb-true m k n in omega arith

    go : (e : Bool) → nat_eq m (length before) ≡ e → cond e (need_state s m (needs before) k) (needs before m k) ≡ true →
        ((p : ℕ) → needs before p k ≡ true → k < length before) → k < suc (length before)
    go true e n ih = of_state s (eqb-true m (length before) e) ih n
    go false e n ih = let less = ih m n in omega arith

-- an older state is as true as before
pub true_at-older : (s : State) (before : List State) (k : ℕ) (v : List ℕ) (c : Content) → k < length before →
    true_at (s ∷ before) k v c ≡ true_at before k v c
true_at-older s before k v c less = let e : nat_eq k (length before) ≡ false = ne_eqb k (length before) (λ same. omega arith) in rw e refl

pub all_agree : (f g : ℕ → Bool) (need : ℕ → ℕ → Bool) (P : ℕ → Type 0) (each : (p : ℕ) → ((k : ℕ) → need p k ≡ true → P k) → f p ≡ g p) →
    (parts : List ℕ) → ((k : ℕ) → list_any (λ p. need p k) parts ≡ true → P k) → list_all f parts ≡ list_all g parts
all_agree f g need P each [] h = refl
all_agree f g need P each (p ∷ parts) h =
    ap (λ b. b && list_all f parts) (each p (λ k n. h k (or_left (need p k) (list_any (λ q. need q k) parts) n)))
    ∙ ap (λ b. g p && b) (all_agree f g need P each parts (λ k n. h k (or_right (need p k) (list_any (λ q. need q k) parts) n)))

pub any_agree : (f g : ℕ → Bool) (need : ℕ → ℕ → Bool) (P : ℕ → Type 0) (each : (p : ℕ) → ((k : ℕ) → need p k ≡ true → P k) → f p ≡ g p) →
    (parts : List ℕ) → ((k : ℕ) → list_any (λ p. need p k) parts ≡ true → P k) → list_any f parts ≡ list_any g parts
any_agree f g need P each [] h = refl
any_agree f g need P each (p ∷ parts) h =
    ap (λ b. b || list_any f parts) (each p (λ k n. h k (or_left (need p k) (list_any (λ q. need q k) parts) n)))
    ∙ ap (λ b. g p || b) (any_agree f g need P each parts (λ k n. h k (or_right (need p k) (list_any (λ q. need q k) parts) n)))

-- the newest state
newest : (s : State) (before : List State) (set : ℕ → Bool) (v : List ℕ) (c : Content) (m : ℕ) → nat_eq m (length before) ≡ true →
    ((k : ℕ) → need_state s m (needs before) k ≡ true → set k ≡ true_at (s ∷ before) k v c) →
    ((p : ℕ) → ((k : ℕ) → needs before p k ≡ true → set k ≡ true_at before k v c) → true_in before set p ≡ true_at before p v c) →
    state_in s set m (true_in before set) ≡ state_holds s (true_at before) v c
newest (state.Path axis asked body) before set v c m e h ih = h m (eq-eqb m m refl) ∙ rw e refl
newest (state.Value r x) before set v c m e h ih = h m (eq-eqb m m refl) ∙ rw e refl
newest (state.Not part) before set v c m e h ih =
    ap not (ih part (λ k n. h k n ∙ true_at-older (state.Not part) before k v c (needs-below before part k n)))
newest (state.And parts) before set v c m e h ih =
    all_agree (true_in before set) (λ q. true_at before q v c) (needs before) (λ k. set k ≡ true_at before k v c) ih parts
    (λ k n. h k n ∙ true_at-older (state.And parts) before k v c (any_below (needs before) (length before) k (λ p. needs-below before p k) parts n))
newest (state.Or parts) before set v c m e h ih =
    any_agree (true_in before set) (λ q. true_at before q v c) (needs before) (λ k. set k ≡ true_at before k v c) ih parts
    (λ k n. h k n ∙ true_at-older (state.Or parts) before k v c (any_below (needs before) (length before) k (λ p. needs-below before p k) parts n))

pub true_in-agrees : (states : List State) (set : ℕ → Bool) (v : List ℕ) (c : Content) (m : ℕ) →
    ((k : ℕ) → needs states m k ≡ true → set k ≡ true_at states k v c) → true_in states set m ≡ true_at states m v c
true_in-agrees [] set v c m h = refl
true_in-agrees (s ∷ before) set v c m h = go (nat_eq m (length before)) refl (true_in-agrees before set v c)
  where
    go : (e : Bool) → nat_eq m (length before) ≡ e → ((p : ℕ) → ((k : ℕ) → needs before p k ≡ true → set k ≡ true_at before k v c) → true_in before set p ≡ true_at before p v c) →
        cond e (state_in s set m (true_in before set)) (true_in before set m) ≡ cond e (state_holds s (true_at before) v c) (true_at before m v c)
    go true e ih = newest s before set v c m e (λ k n. h k (rw e n)) ih
    go false e ih = ih m (λ k n. h k (rw e n) ∙ true_at-older s before k v c (needs-below before m k n))

-- only Path and Value states are needed
abbrev pub IsLooked : Option State → Type 0
IsLooked (Some (state.Path axis asked body)) = Unit {0}
IsLooked (Some (state.Value r x)) = Unit {0}
IsLooked _ = ⊥

any_looked : (need : ℕ → ℕ → Bool) (k : ℕ) (P : Type 0) → ((p : ℕ) → need p k ≡ true → P) → (parts : List ℕ) →
    list_any (λ p. need p k) parts ≡ true → P
any_looked need k P each [] h = cc
any_looked need k P each (p ∷ parts) h = go (need p k) refl h (any_looked need k P each parts)
  where
    go : (b : Bool) → need p k ≡ b → (b || list_any (λ q. need q k) parts) ≡ true → (list_any (λ q. need q k) parts ≡ true → P) → P
    go true e h' rest = each p e
    go false e h' rest = rest h'

pub needs-looked : (states : List State) (m k : ℕ) → needs states m k ≡ true → IsLooked (state_at states k)
needs-looked [] m k h = cc
needs-looked (s ∷ before) m k h = go (nat_eq m (length before)) refl h (λ p. needs-looked before p k)
  where
    older : (p : ℕ) → needs before p k ≡ true → ((p : ℕ) → needs before p k ≡ true → IsLooked (state_at before k)) → IsLooked (state_at (s ∷ before) k)
    older p n ih = rw (state_at-older s before k (needs-below before p k n)) (ih p n)

    of_state : (t : State) → s ≡ t → m ≡ length before → ((p : ℕ) → needs before p k ≡ true → IsLooked (state_at before k)) → need_state t m (needs before) k ≡ true → IsLooked (state_at (s ∷ before) k)
    of_state (state.Path axis asked body) is e ih n =
        let here : nat_eq k (length before) ≡ true = eq-eqb k (length before) (sym (eqb-true m k n) ∙ e) in rw (here, is) tt
    of_state (state.Value r x) is e ih n =
        let here : nat_eq k (length before) ≡ true = eq-eqb k (length before) (sym (eqb-true m k n) ∙ e) in rw (here, is) tt
    of_state (state.And parts) is e ih n = any_looked (needs before) k (IsLooked (state_at (s ∷ before) k)) (λ p n'. older p n' ih) parts n
    of_state (state.Or parts) is e ih n = any_looked (needs before) k (IsLooked (state_at (s ∷ before) k)) (λ p n'. older p n' ih) parts n
    of_state (state.Not part) is e ih n = older part n ih

    go : (e : Bool) → nat_eq m (length before) ≡ e → cond e (need_state s m (needs before) k) (needs before m k) ≡ true →
        ((p : ℕ) → needs before p k ≡ true → IsLooked (state_at before k)) → IsLooked (state_at (s ∷ before) k)
    go true e n ih = of_state s refl (eqb-true m (length before) e) ih n
    go false e n ih = older m n ih
