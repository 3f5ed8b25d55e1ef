-- What a state needs, by its parts.
use Rattle.std.proofs.Common.{◌≡◌, ℕ, zero, suc, ◌+◌, ◌<◌, ◌≤◌, Bool, true, false, ◌||◌, ◌&&◌, cond, List, [], ◌∷◌, ◌++◌, length, take, get_or, refl, sym, ◌∙◌, ap, arith, nat_eq, nat_lt, Some}
use Rattle.std.specs.List.{list_any}
use Rattle.std.proofs.lemmas.Bool.{ne_eqb, lt-ltb}
use Rattle.std.proofs.lemmas.List.Folds.{list_any-append}
use Rattle.px_text.specs.Sets.{has}
use Rattle.px_afa.specs.declared.state.Body.TheVariants as body
use Rattle.px_afa.specs.declared.state.State.{State}
use Rattle.px_afa.specs.declared.state.State.TheVariants as state
use Rattle.px_afa.specs.Truth.{state_at}
use Rattle.px_afa.specs.Sets.{needs, need_state, body_needs}
use Rattle.px_afa.specs.Sound.{AreRising}
use Rattle.px_afa.specs.Orders.{IsOrdered, IsStateBelow}
use Rattle.px_afa.specs.Functions.{need, body_need}
use Rattle.px_afa.proofs.Members.{has-numbers_where, or_assoc}
use Rattle.px_afa.proofs.Needed.{needs-below}
use Rattle.px_step.proofs.Parts.{any_same, below-at}
use Rattle.px_step.proofs.RisingNumbers.{states-are}
use Rattle.std.proofs.Math.Bool.{or-false, and-false}
use Rattle.px_afa.proofs.Growing.{state_below-more}
use Rattle.px_afa.proofs.PathKeeping.{where-none}

needs-older : (t : State) (before : List State) (k p : ℕ) → p < length before → needs before p k ≡ needs (t ∷ before) p k
needs-older t before k p less = let e : nat_eq p (length before) ≡ false = ne_eqb p (length before) (λ same. omega arith) in rw e refl

need_state-same : (s : State) (m k size : ℕ) (f g : ℕ → ℕ → Bool) → ((p : ℕ) → p < size → f p k ≡ g p k) → IsStateBelow s size → need_state s m f k ≡ need_state s m g k
need_state-same (state.Path axis asked b) m k size f g h below = refl
need_state-same (state.Value r c) m k size f g h below = refl
need_state-same (state.And parts) m k size f g h below = any_same size (λ p. f p k) (λ p. g p k) h parts below
need_state-same (state.Or parts) m k size f g h below = any_same size (λ p. f p k) (λ p. g p k) h parts below
need_state-same (state.Not part) m k size f g h below = h part below

-- what a state needs is told by its parts
pub needs-at : (states : List State) → IsOrdered states → (n : ℕ) (s : State) → state_at states n ≡ Some s → (k : ℕ) → needs states n k ≡ need_state s n (needs states) k
needs-at [] o n s e k = cc
needs-at (t ∷ before) o n s e k = go (nat_eq n (length before)) refl e (needs-at before o.1 n s)
  where
    go : (b : Bool) → nat_eq n (length before) ≡ b → cond b (Some t) (state_at before n) ≡ Some s →
        (state_at before n ≡ Some s → (k : ℕ) → needs before n k ≡ need_state s n (needs before) k) →
        cond b (need_state t n (needs before) k) (needs before n k) ≡ need_state s n (needs (t ∷ before)) k
    go true h e' ih =
        let is : t ≡ s = cc in
        ap (λ x. need_state x n (needs before) k) is
        ∙ need_state-same s n k (length before) (needs before) (needs (t ∷ before)) (needs-older t before k) (rw (sym is) o.0)
    go false h e' ih =
        let r = below-at before o.1 n s e' in
        let l : n < length before = r.1 in
        ih e' k ∙ need_state-same s n k (length before) (needs before) (needs (t ∷ before)) (needs-older t before k) (state_below-more s n (length before) (omega arith) r.0)

-- one more number behind a list
pub has-end : (xs : List ℕ) (n k : ℕ) → has (xs ++ n ∷ []) k ≡ (has xs k || nat_eq n k)
has-end xs n k = list_any-append (λ m. nat_eq m k) xs (n ∷ []) ∙ ap (λ z. has xs k || z) (or-false (nat_eq n k))

-- one more member tried
pub any_more : (f : ℕ → Bool) (xs : List ℕ) (i : ℕ) → i < length xs → list_any f (take (i + 1) xs) ≡ (list_any f (take i xs) || f (get_or xs i 0))
any_more f [] i h = absurd (omega arith)
any_more f (x ∷ xs) zero h = or-false (f x)
any_more f (x ∷ xs) (suc i) h =
    let e : suc i + 1 ≡ suc (i + 1) = omega arith in
    rw e (ap (λ z. f x || z) (any_more f xs i (omega arith)) ∙ sym (or_assoc (f x) (list_any f (take i xs)) (f (get_or xs i 0))))

-- one part more
pub parts_added : (states : List State) (parts first old new : List ℕ) (i k : ℕ) → i < length parts →
    has old k ≡ (has first k || list_any (λ p. needs states p k) (take i parts)) → has new k ≡ (has old k || needs states (get_or parts i 0) k) →
    has new k ≡ (has first k || list_any (λ p. needs states p k) (take (i + 1) parts))
parts_added states parts first old new i k less so_far added =
    added
    ∙ (ap (λ z. z || needs states (get_or parts i 0) k) so_far
    ∙ (or_assoc (has first k) (list_any (λ p. needs states p k) (take i parts)) (needs states (get_or parts i 0) k)
    ∙ ap (λ z. has first k || z) (sym (any_more (λ p. needs states p k) parts i less))))

-- what passes only below a size
pub below_size : (size k : ℕ) (b : Bool) → (b ≡ true → k < size) → b ≡ (nat_lt k size && b)
below_size size k true h = let l : nat_lt k size ≡ true = lt-ltb k size (h refl) in rw l refl
below_size size k false h = sym (and-false (nat_lt k size))

-- what was gathered for a state, in rising order, is its need
pub need-is : (states : List State) (n : ℕ) (none given xs : List ℕ) → length states ≤ 500000 → none ≡ [] → ((k : ℕ) → has given k ≡ (has none k || needs states n k)) →
    AreRising xs → ((k : ℕ) → has xs k ≡ has given k) → xs ≡ need states n
need-is states n none given xs few e members rises same =
    (states-are (length states) (needs states n) given xs few
    (λ k.
    members k
    ∙ (ap (λ z. has z k || needs states n k) e
    ∙ (below_size (length states) k (needs states n k) (needs-below states n k)
    ∙ sym (has-numbers_where (length states) (needs states n) k))))
    rises same).is

-- Always needs nothing
pub none-needed : (states : List State) → body_need states body.Always ≡ []
none-needed states = where-none (length states) (body_needs (needs states) body.Always) (λ k. refl)
