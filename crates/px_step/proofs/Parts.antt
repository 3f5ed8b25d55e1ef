-- The truth of a state by that of its parts.
use Rattle.std.proofs.Common.{◌≡◌, ℕ, zero, suc, ◌<◌, ◌≤◌, Bool, true, false, not, ◌||◌, ◌&&◌, cond, List, [], ◌∷◌, length, get_or, refl, sym, ◌∙◌, ap, arith, nat_eq, nat_lt, Some, max}
use mathlib.Core.Bool.{beq}
use Rattle.std.specs.List.{list_any, list_all}
use Rattle.std.proofs.lemmas.Bool.{ne_eqb, eqb-true, ltb-true, and_parts}
use Rattle.px_afa.specs.declared.state.Body.{Body}
use Rattle.px_afa.specs.declared.state.Body.TheVariants as body
use Rattle.px_afa.specs.declared.state.State.{State}
use Rattle.px_afa.specs.declared.state.State.TheVariants as state
use Rattle.px_afa.specs.Truth.{state_at}
use Rattle.px_afa.specs.Sets.{true_in, state_in}
use Rattle.px_afa.specs.Orders.{IsOrdered, IsStateBelow, IsBodyBelow}
use Rattle.px_afa.proofs.Growing.{state_below-more}

abbrev pub Agree : ℕ → (ℕ → Bool) → (ℕ → Bool) → Type 0
Agree size f g = (p : ℕ) → p < size → f p ≡ g p

all_same : (size : ℕ) (f g : ℕ → Bool) → Agree size f g → (parts : List ℕ) → list_all (λ p. nat_lt p size) parts ≡ true → list_all f parts ≡ list_all g parts
all_same size f g h [] b = refl
all_same size f g h (p ∷ parts) b =
    let both = and_parts (nat_lt p size) (list_all (λ q. nat_lt q size) parts) b in
    ap (λ x. x && list_all f parts) (h p (ltb-true p size both.0)) ∙ ap (λ x. g p && x) (all_same size f g h parts both.1)

pub any_same : (size : ℕ) (f g : ℕ → Bool) → Agree size f g → (parts : List ℕ) → list_all (λ p. nat_lt p size) parts ≡ true → list_any f parts ≡ list_any g parts
any_same size f g h [] b = refl
any_same size f g h (p ∷ parts) b =
    let both = and_parts (nat_lt p size) (list_all (λ q. nat_lt q size) parts) b in
    ap (λ x. x || list_any f parts) (h p (ltb-true p size both.0)) ∙ ap (λ x. g p || x) (any_same size f g h parts both.1)

true_in-older : (t : State) (before : List State) (set : ℕ → Bool) → Agree (length before) (true_in before set) (true_in (t ∷ before) set)
true_in-older t before set p less = let e : nat_eq p (length before) ≡ false = ne_eqb p (length before) (λ same. omega arith) in rw e refl

state_in-same : (s : State) (set : ℕ → Bool) (n size : ℕ) (f g : ℕ → Bool) → Agree size f g → IsStateBelow s size → state_in s set n f ≡ state_in s set n g
state_in-same (state.Path axis asked b) set n size f g h below = refl
state_in-same (state.Value r c) set n size f g h below = refl
state_in-same (state.And parts) set n size f g h below = all_same size f g h parts below
state_in-same (state.Or parts) set n size f g h below = any_same size f g h parts below
state_in-same (state.Not part) set n size f g h below = ap not (h part below)

-- a state's parts are below it
pub below-at : (states : List State) → IsOrdered states → (n : ℕ) (s : State) → state_at states n ≡ Some s → IsStateBelow s n × (n < length states)
below-at [] o n s e = cc
below-at (t ∷ before) o n s e = go (nat_eq n (length before)) refl e (below-at before o.1 n s)
  where
    go : (b : Bool) → nat_eq n (length before) ≡ b → cond b (Some t) (state_at before n) ≡ Some s → (state_at before n ≡ Some s → IsStateBelow s n × (n < length before)) →
        IsStateBelow s n × (n < suc (length before))
    go true h e' ih =
        let here : n ≡ length before = eqb-true n (length before) h in
        let is : t ≡ s = cc in
        (rw (here, sym is) o.0, omega arith)
    go false h e' ih = let r = ih e' in let l : n < length before = r.1 in (r.0, omega arith)

-- the truth of a state is that of its parts
pub true_in-at : (states : List State) → IsOrdered states → (n : ℕ) (s : State) → state_at states n ≡ Some s → (set : ℕ → Bool) → true_in states set n ≡ state_in s set n (true_in states set)
true_in-at [] o n s e set = cc
true_in-at (t ∷ before) o n s e set = go (nat_eq n (length before)) refl e (true_in-at before o.1 n s)
  where
    go : (b : Bool) → nat_eq n (length before) ≡ b → cond b (Some t) (state_at before n) ≡ Some s →
        (state_at before n ≡ Some s → (set : ℕ → Bool) → true_in before set n ≡ state_in s set n (true_in before set)) →
        cond b (state_in t set n (true_in before set)) (true_in before set n) ≡ state_in s set n (true_in (t ∷ before) set)
    go true h e' ih =
        let is : t ≡ s = cc in
        ap (λ x. state_in x set n (true_in before set)) is
        ∙ state_in-same s set n (length before) (true_in before set) (true_in (t ∷ before) set) (true_in-older t before set) (rw (sym is) o.0)
    go false h e' ih =
        let r = below-at before o.1 n s e' in
        let l : n < length before = r.1 in
        ih e' set ∙ state_in-same s set n (length before) (true_in before set) (true_in (t ∷ before) set) (true_in-older t before set) (state_below-more s n (length before) (omega arith) r.0)

pub part-at : (parts : List ℕ) (n i : ℕ) → list_all (λ p. nat_lt p n) parts ≡ true → i < length parts → get_or parts i 0 < n
part-at [] n i h less = absurd (omega arith)
part-at (p ∷ parts) n zero h less = ltb-true p n ((and_parts (nat_lt p n) (list_all (λ q. nat_lt q n) parts) h).0)
part-at (p ∷ parts) n (suc i) h less = part-at parts n i ((and_parts (nat_lt p n) (list_all (λ q. nat_lt q n) parts) h).1) (omega arith)

pub body_more : (b : Body) (n size : ℕ) → IsBodyBelow b n → n < size → IsBodyBelow b size
body_more body.Always n size h l = tt
body_more (body.State p) n size h l = omega arith

-- above each part
abbrev pub past_parts : List ℕ → ℕ
past_parts [] = 0
past_parts (p ∷ parts) = max (suc p) (past_parts parts)

pub parts_within : (parts : List ℕ) (n : ℕ) → list_all (λ p. nat_lt p n) parts ≡ true → past_parts parts ≤ n
parts_within [] n h = omega arith
parts_within (p ∷ parts) n h =
    let both = and_parts (nat_lt p n) (list_all (λ q. nat_lt q n) parts) h in
    let less : p < n = ltb-true p n both.0 in
    let rest = parts_within parts n both.1 in
    omega arith

pub part_past : (parts : List ℕ) (i : ℕ) → i < length parts → get_or parts i 0 < past_parts parts
part_past [] i h = absurd (omega arith)
part_past (p ∷ parts) zero h = omega arith
part_past (p ∷ parts) (suc i) h = let l = part_past parts i (omega arith) in omega arith

-- some part is true, or not every one
pub some_true : (f : ℕ → Bool) (parts : List ℕ) → list_any (λ p. beq (f p) true) parts ≡ list_any f parts
some_true f [] = refl
some_true f (p ∷ parts) = go (f p) (some_true f parts)
  where
    go : (b : Bool) → list_any (λ q. beq (f q) true) parts ≡ list_any f parts → (beq b true || list_any (λ q. beq (f q) true) parts) ≡ (b || list_any f parts)
    go true r = refl
    go false r = r

pub none_false : (f : ℕ → Bool) (parts : List ℕ) → not (list_any (λ p. beq (f p) false) parts) ≡ list_all f parts
none_false f [] = refl
none_false f (p ∷ parts) = go (f p) (none_false f parts)
  where
    go : (b : Bool) → not (list_any (λ q. beq (f q) false) parts) ≡ list_all f parts → not (beq b false || list_any (λ q. beq (f q) false) parts) ≡ (b && list_all f parts)
    go true r = r
    go false r = refl
