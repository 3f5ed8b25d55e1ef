-- The accumulators of the machine hold what is true, on the looked_at states.
use Rattle.std.proofs.Common.{◌≡◌, ℕ, Bool, true, false, ◌&&◌, ◌||◌, List, [], ◌∷◌, length, refl, sym, ◌∙◌, ap, nat_eq, nat_lt, Option, Some, None}
use Rattle.std.specs.List.{list_any}
use Rattle.std.proofs.lemmas.Bool.{eq-eqb, eqb-true, lt-ltb, and_from, or_left, or_right}
use Rattle.px_text.specs.Sets.{has}
use Rattle.px_xpath.specs.declared.filter.Axis.{Axis}
use Rattle.px_xpath.specs.declared.filter.Test.{Test}
use Rattle.px_xpath.specs.declared.filter.Relation.{Relation}
use Rattle.px_xpath.specs.declared.filter.Value.{Value}
use Rattle.px_afa.specs.declared.state.Body.{Body}
use Rattle.px_afa.specs.declared.state.Body.TheVariants as bodies
use Rattle.px_afa.specs.declared.state.State.{State}
use Rattle.px_afa.specs.declared.state.State.TheVariants as state
use Rattle.px_afa.specs.Contents.{Content, Empty, Leaf, Element, Kind, ElementKind, leaf_kind, characters}
use Rattle.px_afa.specs.Truth.{state_at, true_at, body_holds, some_child, meets, is_element, is_below}
use Rattle.px_afa.specs.Sets.{add, mask, pop_of, popped, popped_state, pushed, pushed_state, needs, body_needs, true_in, body_in, Label}
use Rattle.px_afa.specs.Machine.{Machine, IsTold, values_of, after_leaf, after_element, needed_inside, gathered_of}
use Rattle.px_afa.specs.Orders.{IsOrdered}
use Rattle.px_afa.proofs.Needed.{true_in-agrees, needs-looked, IsLooked}
use Rattle.px_afa.proofs.Found.{true_at-path, true_at-value, state_at-below}
use Rattle.px_afa.proofs.Members.{has-add, has-filter, has-numbers_where, or_assoc}
use Rattle.std.proofs.Math.Bool.{or-false, and-false, and-true}

-- a looked-at state is a Path or a Value
by_looked : (o : Option State) (P : Type 0) → IsLooked o →
    ((axis : Axis) (asked : Test) (body : Body) → o ≡ Some (state.Path axis asked body) → P) →
    ((r : Relation) (x : Value) → o ≡ Some (state.Value r x) → P) → P
by_looked (Some (state.Path axis asked body)) P h path value = path axis asked body refl
by_looked (Some (state.Value r x)) P h path value = value r x refl
by_looked (Some (state.And parts)) P h path value = absurd h
by_looked (Some (state.Or parts)) P h path value = absurd h
by_looked (Some (state.Not part)) P h path value = absurd h
by_looked None P h path value = absurd h

body-agrees : (states : List State) (set : ℕ → Bool) (v : List ℕ) (c : Content) (body : Body) →
    ((k : ℕ) → body_needs (needs states) body k ≡ true → set k ≡ true_at states k v c) → body_in (true_in states set) body ≡ body_holds (true_at states) body v c
body-agrees states set v c bodies.Always h = refl
body-agrees states set v c (bodies.State m) h = true_in-agrees states set v c m h

body-looked : (states : List State) (body : Body) (k : ℕ) → body_needs (needs states) body k ≡ true → IsLooked (state_at states k)
body-looked states bodies.Always k h = cc
body-looked states (bodies.State m) k h = needs-looked states m k h

-- what a child with this label, string-value and content does for a Path state of its parent
pub popped-is : (machine : Machine) → IsTold machine → (p : ℕ) (axis : Axis) (asked : Test) (body : Body) → state_at machine.states p ≡ Some (state.Path axis asked body) →
    (kind : Kind) (set : ℕ → Bool) (v : List ℕ) (c : Content) →
    (meets asked kind ≡ true → (k : ℕ) → body_needs (needs machine.states) body k ≡ true → set k ≡ true_at machine.states k v c) →
    popped machine.states (machine.label_of kind) set p ≡ ((meets asked kind && body_holds (true_at machine.states) body v c) || ((is_below axis && is_element kind) && set p))
popped-is machine told p axis asked body e kind set v c h =
    ap (λ o. popped_state o (machine.label_of kind) set p (true_in machine.states set)) e
    ∙ (ap (λ b. (b && body_in (true_in machine.states set) body) || ((is_below axis && (machine.label_of kind).of_element) && set p)) (told.tests p axis asked body e kind)
    ∙ (ap (λ b. (meets asked kind && body_in (true_in machine.states set) body) || ((is_below axis && b) && set p)) (told.elements kind)
    ∙ ap (λ b. b || ((is_below axis && is_element kind) && set p)) (go (meets asked kind) refl)))
  where
    go : (m : Bool) → meets asked kind ≡ m → (m && body_in (true_in machine.states set) body) ≡ (m && body_holds (true_at machine.states) body v c)
    go true is = body-agrees machine.states set v c body (h is)
    go false is = refl

popped-value : (states : List State) (label : Label) (set : ℕ → Bool) (n : ℕ) (r : Relation) (x : Value) → state_at states n ≡ Some (state.Value r x) → popped states label set n ≡ false
popped-value states label set n r x e = ap (λ o. popped_state o label set n (true_in states set)) e

has-pop : (states : List State) (set : List ℕ) (label : Label) (n : ℕ) (s : State) → state_at states n ≡ Some s → has (pop_of states set label) n ≡ popped states label (has set) n
has-pop states set label n s e =
    has-numbers_where (length states) (popped states label (has set)) n
    ∙ ap (λ b. b && popped states label (has set) n) (lt-ltb n (length states) (state_at-below states n s e))

-- Value states stay out of the accumulators
pub gathered-value : (machine : Machine) (n : ℕ) (r : Relation) (x : Value) → state_at machine.states n ≡ Some (state.Value r x) →
    (c : Content) (needed gathered : List ℕ) → has (gathered_of machine needed gathered c) n ≡ has gathered n
gathered-value machine n r x e Empty needed gathered = refl
gathered-value machine n r x e (Leaf a v rest) needed gathered =
    gathered-value machine n r x e rest needed (after_leaf machine needed gathered a v)
    ∙ no_more (values_of machine v) (leaf_kind a)
  where
    no_more : (set : List ℕ) (kind : Kind) → has (add gathered (mask (pop_of machine.states set (machine.label_of kind)) needed)) n ≡ has gathered n
    no_more set kind =
        has-add gathered (mask (pop_of machine.states set (machine.label_of kind)) needed) n
        ∙ (ap (λ b. has gathered n || b) (has-filter (has needed) (pop_of machine.states set (machine.label_of kind)) n
        ∙ ap (λ b. b && has needed n) (has-pop machine.states set (machine.label_of kind) n (state.Value r x) e ∙ popped-value machine.states (machine.label_of kind) (has set) n r x e))
        ∙ or-false (has gathered n))
gathered-value machine n r x e (Element name inside rest) needed gathered =
    gathered-value machine n r x e rest needed (after_element machine needed gathered name (characters inside) (gathered_of machine (needed_inside machine needed name) [] inside))
    ∙ no_more (add (gathered_of machine (needed_inside machine needed name) [] inside) (values_of machine (characters inside))) (ElementKind name)
  where
    no_more : (set : List ℕ) (kind : Kind) → has (add gathered (mask (pop_of machine.states set (machine.label_of kind)) needed)) n ≡ has gathered n
    no_more set kind =
        has-add gathered (mask (pop_of machine.states set (machine.label_of kind)) needed) n
        ∙ (ap (λ b. has gathered n || b) (has-filter (has needed) (pop_of machine.states set (machine.label_of kind)) n
        ∙ ap (λ b. b && has needed n) (has-pop machine.states set (machine.label_of kind) n (state.Value r x) e ∙ popped-value machine.states (machine.label_of kind) (has set) n r x e))
        ∙ or-false (has gathered n))

-- a looked_at Path state p has what a masked pop gives it
masked : (machine : Machine) (p : ℕ) (s : State) → state_at machine.states p ≡ Some s → (needed gathered set : List ℕ) (kind : Kind) → has needed p ≡ true →
    has (add gathered (mask (pop_of machine.states set (machine.label_of kind)) needed)) p ≡ (has gathered p || popped machine.states (machine.label_of kind) (has set) p)
masked machine p s e needed gathered set kind n =
    has-add gathered (mask (pop_of machine.states set (machine.label_of kind)) needed) p
    ∙ ap (λ b. has gathered p || b) (has-filter (has needed) (pop_of machine.states set (machine.label_of kind)) p
    ∙ (ap (λ b. has (pop_of machine.states set (machine.label_of kind)) p && b) n
    ∙ (and-true (has (pop_of machine.states set (machine.label_of kind)) p) ∙ has-pop machine.states set (machine.label_of kind) p s e)))

-- at a leaf the values are the truth, on what is looked at
leaf-truth : (machine : Machine) → IsTold machine → IsOrdered machine.states → (v : List ℕ) (k : ℕ) → IsLooked (state_at machine.states k) →
    has (values_of machine v) k ≡ true_at machine.states k v Empty
leaf-truth machine told ordered v k looked =
    by_looked (state_at machine.states k) (has (values_of machine v) k ≡ true_at machine.states k v Empty) looked
    (λ axis asked body e. told.no_paths k axis asked body e v ∙ sym (true_at-path machine.states ordered k axis asked body e v Empty))
    (λ r x e. told.values k r x e v ∙ sym (true_at-value machine.states k r x e v Empty))

pub any_at : (p : ℕ) (f : ℕ → Bool) (set : List ℕ) → has set p ≡ true → f p ≡ true → list_any f set ≡ true
any_at p f [] h t = cc
any_at p f (x ∷ set) h t = go (nat_eq x p) refl h (any_at p f set)
  where
    go : (b : Bool) → nat_eq x p ≡ b → (b || has set p) ≡ true → (has set p ≡ true → f p ≡ true → list_any f set ≡ true) → (f x || list_any f set) ≡ true
    go true e h' ih = let same : x ≡ p = eqb-true x p e in or_left (f x) (list_any f set) (ap f same ∙ t)
    go false e h' ih = or_right (f x) (list_any f set) (ih h' t)

-- what a looked_at Path state of the parent asks of the child is looked_at inside
pushed-needed : (machine : Machine) → IsTold machine → (needed : List ℕ) (p : ℕ) (axis : Axis) (asked : Test) (body : Body) → state_at machine.states p ≡ Some (state.Path axis asked body) → has needed p ≡ true →
    (name : List ℕ) (k : ℕ) (s : State) → state_at machine.states k ≡ Some s →
    ((meets asked (ElementKind name) && body_needs (needs machine.states) body k) || ((is_below axis && true) && nat_eq p k)) ≡ true →
    has (needed_inside machine needed name) k ≡ true
pushed-needed machine told needed p axis asked body e n name k s at h =
    has-numbers_where (length machine.states) (pushed machine.states (machine.label_of (ElementKind name)) needed) k
    ∙ and_from (nat_lt k (length machine.states)) (pushed machine.states (machine.label_of (ElementKind name)) needed k)
    (lt-ltb k (length machine.states) (state_at-below machine.states k s at))
    (any_at p (λ q. pushed_state (state_at machine.states q) (machine.label_of (ElementKind name)) (needs machine.states) q k) needed n
    (ap (λ o. pushed_state o (machine.label_of (ElementKind name)) (needs machine.states) p k) e
    ∙ (ap (λ b. (b && body_needs (needs machine.states) body k) || ((is_below axis && (machine.label_of (ElementKind name)).of_element) && nat_eq p k)) (told.tests p axis asked body e (ElementKind name))
    ∙ (ap (λ b. (meets asked (ElementKind name) && body_needs (needs machine.states) body k) || ((is_below axis && b) && nat_eq p k)) (told.elements (ElementKind name))
    ∙ h))))

-- what the induction knows of the content of an element
abbrev Inside : Machine → Content → Type 0
Inside machine inside = (needed gathered : List ℕ) (p : ℕ) (axis : Axis) (asked : Test) (body : Body) → state_at machine.states p ≡ Some (state.Path axis asked body) → has needed p ≡ true →
    has (gathered_of machine needed gathered inside) p ≡ (has gathered p || some_child axis asked (body_holds (true_at machine.states) body) inside)

-- before its pop an element's set is the truth, on what is looked at and looked_at
inner-truth : (machine : Machine) → IsTold machine → IsOrdered machine.states → (inside : Content) → Inside machine inside →
    (needed : List ℕ) (k : ℕ) → IsLooked (state_at machine.states k) → ((s : State) → state_at machine.states k ≡ Some s → has needed k ≡ true) →
    has (add (gathered_of machine needed [] inside) (values_of machine (characters inside))) k ≡ true_at machine.states k (characters inside) inside
inner-truth machine told ordered inside ih needed k looked looked_at =
    has-add (gathered_of machine needed [] inside) (values_of machine (characters inside)) k
    ∙ by_looked (state_at machine.states k)
    ((has (gathered_of machine needed [] inside) k || has (values_of machine (characters inside)) k) ≡ true_at machine.states k (characters inside) inside) looked
    (λ axis asked body e.
    ap (λ b. has (gathered_of machine needed [] inside) k || b) (told.no_paths k axis asked body e (characters inside))
    ∙ (or-false (has (gathered_of machine needed [] inside) k)
    ∙ (ih needed [] k axis asked body e (looked_at (state.Path axis asked body) e)
    ∙ sym (true_at-path machine.states ordered k axis asked body e (characters inside) inside))))
    (λ r x e.
    ap (λ b. b || has (values_of machine (characters inside)) k) (gathered-value machine k r x e inside needed [])
    ∙ (told.values k r x e (characters inside)
    ∙ sym (true_at-value machine.states k r x e (characters inside) inside)))

-- what an element does for a looked_at Path state of its parent
element-step : (machine : Machine) → IsTold machine → IsOrdered machine.states → (name : List ℕ) (inside : Content) → Inside machine inside →
    (needed gathered : List ℕ) (p : ℕ) (axis : Axis) (asked : Test) (body : Body) → state_at machine.states p ≡ Some (state.Path axis asked body) → has needed p ≡ true →
    has (after_element machine needed gathered name (characters inside) (gathered_of machine (needed_inside machine needed name) [] inside)) p
    ≡ (has gathered p || ((meets asked (ElementKind name) && body_holds (true_at machine.states) body (characters inside) inside) || (is_below axis && some_child axis asked (body_holds (true_at machine.states) body) inside)))
element-step machine told ordered name inside ih needed gathered p axis asked body e n =
    masked machine p (state.Path axis asked body) e needed gathered whole (ElementKind name) n
    ∙ ap (λ b. has gathered p || b)
    (popped-is machine told p axis asked body e (ElementKind name) (has whole) (characters inside) inside
    (λ m k b. inner-truth machine told ordered inside ih wanted k (body-looked machine.states body k b)
    (λ s at. pushed-needed machine told needed p axis asked body e n name k s at
    (or_left (meets asked (ElementKind name) && body_needs (needs machine.states) body k) ((is_below axis && true) && nat_eq p k) (and_from (meets asked (ElementKind name)) (body_needs (needs machine.states) body k) m b))))
    ∙ ap (λ b. (meets asked (ElementKind name) && body_holds (true_at machine.states) body (characters inside) inside) || b) (go (is_below axis) refl))
  where
    wanted : List ℕ
    wanted = needed_inside machine needed name

    whole : List ℕ
    whole = add (gathered_of machine wanted [] inside) (values_of machine (characters inside))

    go : (b : Bool) → is_below axis ≡ b → ((b && true) && has whole p) ≡ (b && some_child axis asked (body_holds (true_at machine.states) body) inside)
    go false is = refl
    go true is =
        let looked : IsLooked (state_at machine.states p) = rw e tt in
        inner-truth machine told ordered inside ih wanted p looked
        (λ s at. pushed-needed machine told needed p axis asked body e n name p s at
        (or_right (meets asked (ElementKind name) && body_needs (needs machine.states) body p) ((is_below axis && true) && nat_eq p p) (and_from (is_below axis && true) (nat_eq p p) (rw is refl) (eq-eqb p p refl))))
        ∙ true_at-path machine.states ordered p axis asked body e (characters inside) inside

leaf-step : (machine : Machine) → IsTold machine → IsOrdered machine.states → (a : Option (List ℕ)) (v : List ℕ) →
    (needed gathered : List ℕ) (p : ℕ) (axis : Axis) (asked : Test) (body : Body) → state_at machine.states p ≡ Some (state.Path axis asked body) → has needed p ≡ true →
    has (after_leaf machine needed gathered a v) p ≡ (has gathered p || (meets asked (leaf_kind a) && body_holds (true_at machine.states) body v Empty))
leaf-step machine told ordered a v needed gathered p axis asked body e n =
    masked machine p (state.Path axis asked body) e needed gathered (values_of machine v) (leaf_kind a) n
    ∙ ap (λ b. has gathered p || b)
    (popped-is machine told p axis asked body e (leaf_kind a) (has (values_of machine v)) v Empty
    (λ m k b. leaf-truth machine told ordered v k (body-looked machine.states body k b))
    ∙ (ap (λ b. (meets asked (leaf_kind a) && body_holds (true_at machine.states) body v Empty) || ((is_below axis && b) && has (values_of machine v) p)) (no_element a)
    ∙ (ap (λ b. (meets asked (leaf_kind a) && body_holds (true_at machine.states) body v Empty) || (b && has (values_of machine v) p)) (and-false (is_below axis))
    ∙ or-false (meets asked (leaf_kind a) && body_holds (true_at machine.states) body v Empty))))
  where
    no_element : (o : Option (List ℕ)) → is_element (leaf_kind o) ≡ false
    no_element None = refl
    no_element (Some name) = refl

-- the accumulator after some content has a looked_at Path state where it had it before, or some child makes it true
pub gathered-path : (machine : Machine) → IsTold machine → IsOrdered machine.states → (c : Content) → Inside machine c
gathered-path machine told ordered Empty needed gathered p axis asked body e n = sym (or-false (has gathered p))
gathered-path machine told ordered (Leaf a v rest) needed gathered p axis asked body e n =
    gathered-path machine told ordered rest needed (after_leaf machine needed gathered a v) p axis asked body e n
    ∙ (ap (λ b. b || some_child axis asked (body_holds (true_at machine.states) body) rest) (leaf-step machine told ordered a v needed gathered p axis asked body e n)
    ∙ or_assoc (has gathered p) (meets asked (leaf_kind a) && body_holds (true_at machine.states) body v Empty) (some_child axis asked (body_holds (true_at machine.states) body) rest))
gathered-path machine told ordered (Element name inside rest) needed gathered p axis asked body e n =
    gathered-path machine told ordered rest needed (after_element machine needed gathered name (characters inside) (gathered_of machine (needed_inside machine needed name) [] inside)) p axis asked body e n
    ∙ (ap (λ b. b || some_child axis asked (body_holds (true_at machine.states) body) rest) (element-step machine told ordered name inside (gathered-path machine told ordered inside) needed gathered p axis asked body e n)
    ∙ or_assoc (has gathered p) ((meets asked (ElementKind name) && body_holds (true_at machine.states) body (characters inside) inside) || (is_below axis && some_child axis asked (body_holds (true_at machine.states) body) inside)) (some_child axis asked (body_holds (true_at machine.states) body) rest))
