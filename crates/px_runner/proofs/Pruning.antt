-- Pruning: on is_needed states the accumulators with needs and without agree. Nothing is asked of the machine.
use Rattle.std.proofs.Common.{◌≡◌, ℕ, ◌<◌, Bool, true, false, not, ◌&&◌, ◌||◌, cond, List, [], ◌∷◌, length, refl, sym, ◌∙◌, ap, nat_eq, nat_lt, Option, Some, None}
use Rattle.std.proofs.lemmas.Bool.{eq-eqb, lt-ltb, and_from, or_left, or_right}
use Rattle.px_text.specs.Sets.{has}
use Rattle.px_afa.specs.declared.state.Body.{Body}
use Rattle.px_afa.specs.declared.state.Body.TheVariants as bodies
use Rattle.px_afa.specs.declared.state.State.{State}
use Rattle.px_afa.specs.declared.state.State.TheVariants as state
use Rattle.px_afa.specs.Contents.{Content, Empty, Leaf, Element, ElementKind, leaf_kind, characters}
use Rattle.px_afa.specs.Truth.{state_at, is_below}
use Rattle.px_afa.specs.Sets.{add, mask, pop_of, push_of, popped, popped_state, pushed, pushed_state, needs, need_state, body_needs, true_in, state_in, body_in, Label}
use Rattle.px_afa.specs.Machine.{Machine, values_of, needed_inside, gathered_of, all_gathered}
use Rattle.px_afa.proofs.Needed.{all_agree, any_agree}
use Rattle.px_afa.proofs.Found.{state_at-below}
use Rattle.px_afa.proofs.Members.{has-add, has-filter, has-numbers_where}
use Rattle.px_runner.proofs.Gathered.{any_at}
use Rattle.std.proofs.Math.Bool.{and-true}
use Rattle.px_prune.proofs.Pushed.{body_below}

-- two sets that agree on what a state needs
pub true_in-same : (states : List State) (a b : ℕ → Bool) (m : ℕ) → ((k : ℕ) → needs states m k ≡ true → a k ≡ b k) → true_in states a m ≡ true_in states b m
true_in-same [] a b m h = refl
true_in-same (s ∷ before) a b m h = go (nat_eq m (length before)) refl (true_in-same before a b)
  where
    of_state : (t : State) → ((k : ℕ) → need_state t m (needs before) k ≡ true → a k ≡ b k) →
        ((p : ℕ) → ((k : ℕ) → needs before p k ≡ true → a k ≡ b k) → true_in before a p ≡ true_in before b p) →
        state_in t a m (true_in before a) ≡ state_in t b m (true_in before b)
    of_state (state.Path axis asked body) h' ih = h' m (eq-eqb m m refl)
    of_state (state.Value r x) h' ih = h' m (eq-eqb m m refl)
    of_state (state.Not part) h' ih = ap not (ih part h')
    of_state (state.And parts) h' ih = all_agree (true_in before a) (true_in before b) (needs before) (λ k. a k ≡ b k) ih parts h'
    of_state (state.Or parts) h' ih = any_agree (true_in before a) (true_in before b) (needs before) (λ k. a k ≡ b k) ih parts h'

    go : (e : Bool) → nat_eq m (length before) ≡ e → ((p : ℕ) → ((k : ℕ) → needs before p k ≡ true → a k ≡ b k) → true_in before a p ≡ true_in before b p) →
        cond e (state_in s a m (true_in before a)) (true_in before a m) ≡ cond e (state_in s b m (true_in before b)) (true_in before b m)
    go true e ih = of_state s (λ k n. h k (rw e n)) ih
    go false e ih = ih m (λ k n. h k (rw e n))

body-same : (states : List State) (a b : ℕ → Bool) (body : Body) → ((k : ℕ) → body_needs (needs states) body k ≡ true → a k ≡ b k) → body_in (true_in states a) body ≡ body_in (true_in states b) body
body-same states a b bodies.Always h = refl
body-same states a b (bodies.State m) h = true_in-same states a b m h

-- what pop asks of two sets to give p the same answer
pub popped-same : (states : List State) (label : Label) (a b : ℕ → Bool) (p : ℕ) → ((k : ℕ) → k < length states → pushed_state (state_at states p) label (needs states) p k ≡ true → a k ≡ b k) →
    popped states label a p ≡ popped states label b p
popped-same states label a b p h = go (state_at states p) refl h
  where
    go : (o : Option State) → state_at states p ≡ o → ((k : ℕ) → k < length states → pushed_state o label (needs states) p k ≡ true → a k ≡ b k) →
        popped_state o label a p (true_in states a) ≡ popped_state o label b p (true_in states b)
    go None e h' = refl
    go (Some (state.And parts)) e h' = refl
    go (Some (state.Or parts)) e h' = refl
    go (Some (state.Not part)) e h' = refl
    go (Some (state.Value r x)) e h' = refl
    go (Some (state.Path axis asked body)) e h' =
        ap (λ c. c || ((is_below axis && label.of_element) && a p)) (first (label.meets_test asked) refl)
        ∙ ap (λ c. (label.meets_test asked && body_in (true_in states b) body) || c) (second (is_below axis && label.of_element) refl)
      where
        first : (m : Bool) → label.meets_test asked ≡ m → (m && body_in (true_in states a) body) ≡ (m && body_in (true_in states b) body)
        first false is = refl
        first true is =
            body-same states a b body (λ k n. h' k (body_below states body k n)
            (or_left (label.meets_test asked && body_needs (needs states) body k) ((is_below axis && label.of_element) && nat_eq p k) (and_from (label.meets_test asked) (body_needs (needs states) body k) is n)))

        second : (m : Bool) → (is_below axis && label.of_element) ≡ m → (m && a p) ≡ (m && b p)
        second false is = refl
        second true is =
            h' p (state_at-below states p (state.Path axis asked body) e)
            (or_right (label.meets_test asked && body_needs (needs states) body p) ((is_below axis && label.of_element) && nat_eq p p) (and_from (is_below axis && label.of_element) (nat_eq p p) is (eq-eqb p p refl)))

-- what a is_needed state of the parent looks at is is_needed inside
pub pushed-inside : (states : List State) (needed : List ℕ) (label : Label) (p : ℕ) → has needed p ≡ true → (k : ℕ) → k < length states → pushed_state (state_at states p) label (needs states) p k ≡ true →
    has (push_of states needed label) k ≡ true
pushed-inside states needed label p n k less h =
    has-numbers_where (length states) (pushed states label needed) k
    ∙ and_from (nat_lt k (length states)) (pushed states label needed k) (lt-ltb k (length states) less)
    (any_at p (λ q. pushed_state (state_at states q) label (needs states) q k) needed n h)

-- one masked step and one that is not
step-same : (states : List State) (needed gathered all a b : List ℕ) (label : Label) (p : ℕ) → has needed p ≡ true → has gathered p ≡ has all p →
    ((k : ℕ) → k < length states → pushed_state (state_at states p) label (needs states) p k ≡ true → has a k ≡ has b k) →
    has (add gathered (mask (pop_of states a label) needed)) p ≡ has (add all (pop_of states b label)) p
step-same states needed gathered all a b label p n same h =
    has-add gathered (mask (pop_of states a label) needed) p
    ∙ (ap (λ c. has gathered p || c)
    (has-filter (has needed) (pop_of states a label) p
    ∙ (ap (λ c. has (pop_of states a label) p && c) n
    ∙ (and-true (has (pop_of states a label) p)
    ∙ (has-numbers_where (length states) (popped states label (has a)) p
    ∙ (ap (λ c. nat_lt p (length states) && c) (popped-same states label (has a) (has b) p h)
    ∙ sym (has-numbers_where (length states) (popped states label (has b)) p))))))
    ∙ (ap (λ c. c || has (pop_of states b label) p) same
    ∙ sym (has-add all (pop_of states b label) p)))

pub prune-same : (machine : Machine) (c : Content) (needed gathered all : List ℕ) (p : ℕ) → has needed p ≡ true → has gathered p ≡ has all p →
    has (gathered_of machine needed gathered c) p ≡ has (all_gathered machine all c) p
prune-same machine Empty needed gathered all p n same = same
prune-same machine (Leaf a v rest) needed gathered all p n same =
    prune-same machine rest needed _ _ p n
    (step-same machine.states needed gathered all (values_of machine v) (values_of machine v) (machine.label_of (leaf_kind a)) p n same (λ k less h. refl))
prune-same machine (Element name inside rest) needed gathered all p n same =
    prune-same machine rest needed _ _ p n
    (step-same machine.states needed gathered all (add (gathered_of machine wanted [] inside) values) (add (all_gathered machine [] inside) values) label p n same
    (λ k less h.
    has-add (gathered_of machine wanted [] inside) values k
    ∙ (ap (λ c. c || has values k) (prune-same machine inside wanted [] [] k (pushed-inside machine.states needed label p n k less h) refl)
    ∙ sym (has-add (all_gathered machine [] inside) values k))))
  where
    label : Label
    label = machine.label_of (ElementKind name)

    wanted : List ℕ
    wanted = needed_inside machine needed name

    values : List ℕ
    values = values_of machine (characters inside)
