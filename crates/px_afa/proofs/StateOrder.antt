-- The order of states answers Equal exactly where they are the same.
use Rattle.std.proofs.Common.{◌≡◌, ℕ, Bool, true, false, ◌&&◌, List, refl, sym, ◌∙◌, ap, cond, ◌∷◌, length, Some, subst}
use Rattle.std.specs.declared.cmp.Ordering.{Ordering}
use Rattle.std.specs.declared.cmp.Ordering.TheVariants.{Less, Equal, Greater}
use Rattle.std.specs.Ordering.{is_eq, ordering_then, nat_cmp}
use Rattle.std.specs.BTreeMap.{BTreeMap, get, Updates}
use Rattle.std.proofs.lemmas.Cmp.{tied_itself}
use Rattle.std.proofs.lemmas.Bool.{eq-eqb, and_from}
use Rattle.std.proofs.lemmas.Map.Lookups.{exact_bytes, exact_unsigned}
use Rattle.std.proofs.lemmas.Slice.Eq.{bytes_eq-Decides}
use Rattle.px_xpath.specs.declared.filter.Axis.{Axis}
use Rattle.px_xpath.specs.declared.filter.Axis.TheVariants.{Child, Below}
use Rattle.px_xpath.specs.declared.filter.Test.{Test}
use Rattle.px_xpath.specs.declared.filter.Test.TheVariants as tests
use Rattle.px_xpath.specs.declared.filter.Relation.{Relation}
use Rattle.px_xpath.specs.declared.filter.Relation.TheVariants as relations
use Rattle.px_xpath.specs.declared.filter.Value.{Value}
use Rattle.px_xpath.specs.declared.filter.Value.TheVariants.{Number, Literal}
use Rattle.px_xpath.specs.contracts.filter.AxisOrd.TheImpl as axes
use Rattle.px_xpath.specs.contracts.filter.TestOrd.TheImpl as tests_order
use Rattle.px_xpath.specs.contracts.filter.RelationOrd.TheImpl as relations_order
use Rattle.px_xpath.specs.contracts.filter.ValueOrd.TheImpl as values
use Rattle.px_xpath.proofs.Ties.{elements_tied, attributes_tied, literals_tied, values_tied}
use Rattle.px_afa.specs.declared.state.Body.{Body}
use Rattle.px_afa.specs.declared.state.Body.TheVariants as bodies
use Rattle.px_afa.specs.declared.state.State.{State}
use Rattle.px_afa.specs.declared.state.State.TheVariants as state
use Rattle.px_afa.specs.contracts.state.BodyOrd.TheImpl as bodies_order
use Rattle.px_afa.specs.contracts.state.StateOrd.TheImpl as order
use Rattle.px_afa.specs.contracts.state.StateOrd.TheImpl.Laws as laws
use Rattle.px_afa.specs.Building.{same_axis, same_test, same_relation, same_value, same_body, same_state}
use Rattle.px_afa.specs.Numbering.{AreNumbered}
use Rattle.px_afa.proofs.SameStates.{same_state-is}
use Rattle.std.specs.Cmp.{both_ways}

is_equal : (o : Ordering) → is_eq o ≡ true → o ≡ Equal
is_equal Equal h = refl
is_equal Less h = cc
is_equal Greater h = cc

both_equal : (a b : Ordering) → is_eq (ordering_then a b) ≡ true → (is_eq a ≡ true) × (is_eq b ≡ true)
both_equal Equal b h = (refl, h)
both_equal Less b h = cc
both_equal Greater b h = cc

exact_axis : (a b : Axis) → is_eq (axes.cmp-value.it a b) ≡ true → a ≡ b
exact_axis Child Child h = refl
exact_axis Below Below h = refl
exact_axis Child Below h = cc
exact_axis Below Child h = cc

exact_test : (a b : Test) → is_eq (tests_order.cmp-value.it a b) ≡ true → a ≡ b
exact_test (tests.Element a) (tests.Element b) h = (elements_tied a b).0 h
exact_test (tests.Attribute a) (tests.Attribute b) h = (attributes_tied a b).0 h
exact_test tests.AnyElement tests.AnyElement h = refl
exact_test tests.AnyAttribute tests.AnyAttribute h = refl
exact_test tests.Text tests.Text h = refl
exact_test _ _ h = cc

exact_relation : (a b : Relation) → is_eq (relations_order.cmp-value.it a b) ≡ true → a ≡ b
exact_relation relations.Equal relations.Equal h = refl
exact_relation relations.NotEqual relations.NotEqual h = refl
exact_relation relations.Less relations.Less h = refl
exact_relation relations.AtMost relations.AtMost h = refl
exact_relation relations.Greater relations.Greater h = refl
exact_relation relations.AtLeast relations.AtLeast h = refl
exact_relation _ _ h = cc

exact_value : (a b : Value) → is_eq (values.cmp-value.it a b) ≡ true → a ≡ b
exact_value (Number a) (Number b) h = (values_tied a b).0 h
exact_value (Literal a) (Literal b) h = (literals_tied a b).0 h
exact_value _ _ h = cc

exact_body : (a b : Body) → is_eq (bodies_order.cmp-value.it a b) ≡ true → a ≡ b
exact_body bodies.Always bodies.Always h = refl
exact_body (bodies.State a) (bodies.State b) h = ap bodies.State (exact_unsigned a b (is_equal (nat_cmp a b) h))
exact_body _ _ h = cc

exact_state : (a b : State) → is_eq (order.cmp-value.it a b) ≡ true → a ≡ b
exact_state (state.Path a t b) (state.Path a' t' b') h =
    let p = both_equal (axes.cmp-value.it a a') (ordering_then (tests_order.cmp-value.it t t') (bodies_order.cmp-value.it b b')) h in
    let q = both_equal (tests_order.cmp-value.it t t') (bodies_order.cmp-value.it b b') p.1 in
    let x = exact_axis a a' p.0 in
    let y = exact_test t t' q.0 in
    let z = exact_body b b' q.1 in
    cc
exact_state (state.And a) (state.And b) h = ap state.And (exact_bytes a b (is_equal _ h))
exact_state (state.Or a) (state.Or b) h = ap state.Or (exact_bytes a b (is_equal _ h))
exact_state (state.Not a) (state.Not b) h = ap state.Not (exact_unsigned a b (is_equal (nat_cmp a b) h))
exact_state (state.Value r a) (state.Value q b) h =
    let p = both_equal (relations_order.cmp-value.it r q) (values.cmp-value.it a b) h in
    let x = exact_relation r q p.0 in
    let y = exact_value a b p.1 in
    cc
exact_state _ _ h = cc

same_axis-itself : (a : Axis) → same_axis a a ≡ true
same_axis-itself Child = refl
same_axis-itself Below = refl

same_test-itself : (t : Test) → same_test t t ≡ true
same_test-itself (tests.Element n) = (bytes_eq-Decides n n).1 refl
same_test-itself (tests.Attribute n) = (bytes_eq-Decides n n).1 refl
same_test-itself tests.AnyElement = refl
same_test-itself tests.AnyAttribute = refl
same_test-itself tests.Text = refl

same_relation-itself : (r : Relation) → same_relation r r ≡ true
same_relation-itself relations.Equal = refl
same_relation-itself relations.NotEqual = refl
same_relation-itself relations.Less = refl
same_relation-itself relations.AtMost = refl
same_relation-itself relations.Greater = refl
same_relation-itself relations.AtLeast = refl

same_value-itself : (v : Value) → same_value v v ≡ true
same_value-itself (Number a) = (values_tied a a).1 refl
same_value-itself (Literal a) = (bytes_eq-Decides a a).1 refl

same_body-itself : (b : Body) → same_body b b ≡ true
same_body-itself bodies.Always = refl
same_body-itself (bodies.State n) = eq-eqb n n refl

pub same_state-itself : (s : State) → same_state s s ≡ true
same_state-itself (state.Path a t b) = and_from (same_axis a a && same_test t t) (same_body b b) (and_from (same_axis a a) (same_test t t) (same_axis-itself a) (same_test-itself t)) (same_body-itself b)
same_state-itself (state.And ps) = (bytes_eq-Decides ps ps).1 refl
same_state-itself (state.Or ps) = (bytes_eq-Decides ps ps).1 refl
same_state-itself (state.Not p) = eq-eqb p p refl
same_state-itself (state.Value r v) = and_from (same_relation r r) (same_value v v) (same_relation-itself r) (same_value-itself v)

ordered_as_same : (s t : State) → is_eq (order.cmp-value.it t s) ≡ same_state s t
ordered_as_same s t =
    both_ways _ _
    (λ h. let e : t ≡ s = exact_state t s h in subst (λ x. same_state s x ≡ true) (sym e) (same_state-itself s))
    (λ h. let e : s ≡ t = same_state-is s t h in subst (λ x. is_eq (order.cmp-value.it t x) ≡ true) (sym e) (ap is_eq (tied_itself laws.total-law t)))

-- a state that is added is found at its number
pub numbered_more : (states : List State) (m n : BTreeMap State ℕ) (s key : State) (at : ℕ) →
    AreNumbered states m → key ≡ s → at ≡ length states → Updates order.cmp-value.it m n key (Some at) → AreNumbered (s ∷ states) n
numbered_more states m n s key at old same here up q =
    up.0 q ∙ (ap (λ b. cond b (Some at) (get order.cmp-value.it m q)) (ap (λ k. is_eq (order.cmp-value.it k q)) same ∙ ordered_as_same q s)
    ∙ (ap (λ k. cond (same_state q s) (Some k) (get order.cmp-value.it m q)) here
    ∙ ap (λ o. cond (same_state q s) (Some (length states)) o) (old q)))
