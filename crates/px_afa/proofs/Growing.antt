-- How the states of a program grow: older states keep their truth, and a state that is shared means what it says.
use Rattle.std.proofs.Common.{◌≡◌, ℕ, ◌<◌, ◌≤◌, Bool, true, false, not, ◌&&◌, ◌||◌, cond, List, [], ◌∷◌, length, refl, sym, ◌∙◌, ap, arith, nat_eq, nat_lt, Option, Some, None}
use Rattle.std.specs.List.{list_any, list_all}
use Rattle.std.proofs.lemmas.Bool.{eq-eqb, lt-ltb, ltb-true, and_from, and_parts}
use Rattle.px_afa.specs.declared.state.Body.{Body}
use Rattle.px_afa.specs.declared.state.Body.TheVariants as bodies
use Rattle.px_afa.specs.declared.state.State.{State}
use Rattle.px_afa.specs.declared.state.State.TheVariants as state
use Rattle.px_afa.specs.Contents.{Content}
use Rattle.px_afa.specs.Truth.{state_at, true_at, state_holds, body_holds}
use Rattle.px_afa.specs.Orders.{IsOrdered, IsStateBelow, IsBodyBelow}
use Rattle.px_afa.specs.Building.{same_state, number_of, share, made_or_new, Made}
use Rattle.px_afa.proofs.StatesByNumber.{state_at-older}
use Rattle.px_afa.proofs.Needed.{true_at-older}
use Rattle.px_afa.proofs.Found.{some_child-same}
use Rattle.px_afa.proofs.SameStates.{same_state-is}

-- more states at the end, and no other change
pub record Grows (old new : List State) : Type 0 where
  pub longer : length old ≤ length new
  pub keeps : (n : ℕ) → n < length old → (v : List ℕ) (c : Content) → true_at new n v c ≡ true_at old n v c
  pub finds : (n : ℕ) → n < length old → state_at new n ≡ state_at old n
  pub ordered : IsOrdered old → IsOrdered new

pub grows-same : (s : List State) → Grows s s
grows-same s = record { longer = omega arith; keeps = λ n l v c. refl; finds = λ n l. refl; ordered = λ o. o }

pub grows-on : {a b c : List State} → Grows a b → Grows b c → Grows a c
grows-on g h = record {
  longer = omega arith;
  keeps = λ n l v c. let l' : n < length _ = omega arith in h.keeps n l' v c ∙ g.keeps n l v c;
  finds = λ n l. let l' : n < length _ = omega arith in h.finds n l' ∙ g.finds n l;
  ordered = λ o. h.ordered (g.ordered o);
}

grows-one : (s : State) (states : List State) → IsStateBelow s (length states) → Grows states (s ∷ states)
grows-one s states below = record {
  longer = omega arith;
  keeps = λ n l v c. true_at-older s states n v c l;
  finds = λ n l. state_at-older s states n l;
  ordered = λ o. (below, o);
}

all_older : (t : State) (before : List State) (v : List ℕ) (c : Content) (parts : List ℕ) → list_all (λ p. nat_lt p (length before)) parts ≡ true →
    list_all (λ m. true_at (t ∷ before) m v c) parts ≡ list_all (λ m. true_at before m v c) parts
all_older t before v c [] h = refl
all_older t before v c (p ∷ parts) h =
    let both = and_parts (nat_lt p (length before)) (list_all (λ q. nat_lt q (length before)) parts) h in
    ap (λ b. b && list_all (λ m. true_at (t ∷ before) m v c) parts) (true_at-older t before p v c (ltb-true p (length before) both.0))
    ∙ ap (λ b. true_at before p v c && b) (all_older t before v c parts both.1)

any_older : (t : State) (before : List State) (v : List ℕ) (c : Content) (parts : List ℕ) → list_all (λ p. nat_lt p (length before)) parts ≡ true →
    list_any (λ m. true_at (t ∷ before) m v c) parts ≡ list_any (λ m. true_at before m v c) parts
any_older t before v c [] h = refl
any_older t before v c (p ∷ parts) h =
    let both = and_parts (nat_lt p (length before)) (list_all (λ q. nat_lt q (length before)) parts) h in
    ap (λ b. b || list_any (λ m. true_at (t ∷ before) m v c) parts) (true_at-older t before p v c (ltb-true p (length before) both.0))
    ∙ ap (λ b. true_at before p v c || b) (any_older t before v c parts both.1)

body_older : (t : State) (before : List State) (body : Body) → IsBodyBelow body (length before) → (v : List ℕ) (c : Content) →
    body_holds (true_at (t ∷ before)) body v c ≡ body_holds (true_at before) body v c
body_older t before bodies.Always h v c = refl
body_older t before (bodies.State m) h v c = true_at-older t before m v c h

holds-older : (t : State) (before : List State) (s : State) → IsStateBelow s (length before) → (v : List ℕ) (c : Content) →
    state_holds s (true_at (t ∷ before)) v c ≡ state_holds s (true_at before) v c
holds-older t before (state.Path axis asked body) h v c = some_child-same axis asked (body_holds (true_at (t ∷ before)) body) (body_holds (true_at before) body) (body_older t before body h) c
holds-older t before (state.And parts) h v c = all_older t before v c parts h
holds-older t before (state.Or parts) h v c = any_older t before v c parts h
holds-older t before (state.Not part) h v c = ap not (true_at-older t before part v c h)
holds-older t before (state.Value r x) h v c = refl

-- what is known of a state that was shared or made
pub record Given (states : List State) (s : State) (made : Made) : Type 0 where
  pub grows : Grows states made.states
  pub within : made.number < length made.states
  pub is : state_at made.states made.number ≡ Some s
  pub means : (v : List ℕ) (c : Content) → true_at made.states made.number v c ≡ state_holds s (true_at states) v c

-- a state that was found
pub record Found (states : List State) (s : State) (n : ℕ) : Type 0 where
  pub within : n < length states
  pub is : state_at states n ≡ Some s
  pub below : IsStateBelow s n
  pub means : (v : List ℕ) (c : Content) → true_at states n v c ≡ state_holds s (true_at states) v c

pub parts_below-more : (parts : List ℕ) (n m : ℕ) → n ≤ m → list_all (λ p. nat_lt p n) parts ≡ true → list_all (λ p. nat_lt p m) parts ≡ true
parts_below-more [] n m le h = refl
parts_below-more (p ∷ parts) n m le h =
    let both = and_parts (nat_lt p n) (list_all (λ q. nat_lt q n) parts) h in
    let less : p < n = ltb-true p n both.0 in
    and_from (nat_lt p m) (list_all (λ q. nat_lt q m) parts) (lt-ltb p m (omega arith)) (parts_below-more parts n m le both.1)

pub state_below-more : (s : State) (n m : ℕ) → n ≤ m → IsStateBelow s n → IsStateBelow s m
state_below-more (state.Path axis asked bodies.Always) n m le h = tt
state_below-more (state.Path axis asked (bodies.State p)) n m le h = omega arith
state_below-more (state.And parts) n m le h = parts_below-more parts n m le h
state_below-more (state.Or parts) n m le h = parts_below-more parts n m le h
state_below-more (state.Not part) n m le h = omega arith
state_below-more (state.Value r x) n m le h = tt

found-here : (s t : State) (before : List State) (n : ℕ) → IsStateBelow t (length before) → s ≡ t → n ≡ length before → Found (t ∷ before) s n
found-here s t before n below e l = record {
  within = omega arith;
  is = rw (here, e) refl;
  below = rw (e, l) below;
  means = λ v c. rw here (ap (λ x. state_holds x (true_at before) v c) (sym e) ∙ sym (holds-older t before s (rw e below) v c));
}
  where
    here : nat_eq n (length before) ≡ true
    here = eq-eqb n (length before) l

found-older : (s t : State) (before : List State) (n : ℕ) → Found before s n → Found (t ∷ before) s n
found-older s t before n f =
    let within : n < length before = f.within in
    record {
      within = omega arith;
      is = state_at-older t before n within ∙ f.is;
      below = f.below;
      means = λ v c. true_at-older t before n v c within ∙ (f.means v c ∙ sym (holds-older t before s (state_below-more s n (length before) (omega arith) f.below) v c));
    }

found : (s : State) (states : List State) (n : ℕ) → IsOrdered states → number_of s states ≡ Some n → Found states s n
found s [] n ordered h = cc
found s (t ∷ before) n ordered h = go (same_state s t) refl h (found s before n ordered.1)
  where
    go : (b : Bool) → same_state s t ≡ b → cond b (Some (length before)) (number_of s before) ≡ Some n → (number_of s before ≡ Some n → Found before s n) → Found (t ∷ before) s n
    go true e h' ih = let l : n ≡ length before = cc in found-here s t before n ordered.0 (same_state-is s t e) l
    go false e h' ih = found-older s t before n (ih h')

pub shared : (s : State) (states : List State) → IsOrdered states → IsStateBelow s (length states) → Given states s (share s states)
shared s states ordered below = go (number_of s states) refl
  where
    go : (o : Option ℕ) → number_of s states ≡ o → Given states s (made_or_new o s states)
    go (Some n) e = let f = found s states n ordered e in record { grows = grows-same states; within = f.within; is = f.is; means = f.means }
    go None e =
        let here : nat_eq (length states) (length states) ≡ true = eq-eqb (length states) (length states) refl in
        record {
          grows = grows-one s states below;
          within = omega arith;
          is = rw here refl;
          means = λ v c. rw here refl;
        }
