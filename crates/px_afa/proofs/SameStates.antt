-- States that test as the same are equal.
use Rattle.std.proofs.Common.{◌≡◌, true, ◌&&◌, refl, ap}
use Rattle.std.proofs.lemmas.Bool.{eqb-true, and_parts}
use Rattle.std.proofs.lemmas.Slice.Eq.{bytes_eq-Decides}
use Rattle.px_xpath.specs.declared.filter.Axis.{Axis}
use Rattle.px_xpath.specs.declared.filter.Axis.TheVariants.{Child, Below}
use Rattle.px_xpath.specs.declared.filter.Test.{Test}
use Rattle.px_xpath.specs.declared.filter.Test.TheVariants as tests
use Rattle.px_xpath.specs.declared.filter.Relation.{Relation}
use Rattle.px_xpath.specs.declared.filter.Relation.TheVariants as relations
use Rattle.px_xpath.specs.declared.filter.Value.{Value}
use Rattle.px_xpath.specs.declared.filter.Value.TheVariants.{Number, Literal}
use Rattle.px_xpath.proofs.Ties.{values_tied}
use Rattle.px_afa.specs.declared.state.Body.{Body}
use Rattle.px_afa.specs.declared.state.Body.TheVariants as bodies
use Rattle.px_afa.specs.declared.state.State.{State}
use Rattle.px_afa.specs.declared.state.State.TheVariants as state
use Rattle.px_afa.specs.Building.{same_axis, same_test, same_relation, same_value, same_body, same_state}

same_axis-is : (a b : Axis) → same_axis a b ≡ true → a ≡ b
same_axis-is Child Child h = refl
same_axis-is Below Below h = refl
same_axis-is Child Below h = cc
same_axis-is Below Child h = cc

same_test-is : (a b : Test) → same_test a b ≡ true → a ≡ b
same_test-is (tests.Element n) (tests.Element m) h = ap tests.Element ((bytes_eq-Decides n m).0 h)
same_test-is tests.AnyElement tests.AnyElement h = refl
same_test-is (tests.Attribute n) (tests.Attribute m) h = ap tests.Attribute ((bytes_eq-Decides n m).0 h)
same_test-is tests.AnyAttribute tests.AnyAttribute h = refl
same_test-is tests.Text tests.Text h = refl
same_test-is _ _ h = cc

pub same_relation-is : (a b : Relation) → same_relation a b ≡ true → a ≡ b
same_relation-is relations.Equal relations.Equal h = refl
same_relation-is relations.NotEqual relations.NotEqual h = refl
same_relation-is relations.Less relations.Less h = refl
same_relation-is relations.AtMost relations.AtMost h = refl
same_relation-is relations.Greater relations.Greater h = refl
same_relation-is relations.AtLeast relations.AtLeast h = refl
same_relation-is _ _ h = cc

same_value-is : (a b : Value) → same_value a b ≡ true → a ≡ b
same_value-is (Literal a) (Literal b) h = ap Literal ((bytes_eq-Decides a b).0 h)
same_value-is (Number a) (Number b) h = (values_tied a b).0 h
same_value-is _ _ h = cc

same_body-is : (a b : Body) → same_body a b ≡ true → a ≡ b
same_body-is bodies.Always bodies.Always h = refl
same_body-is (bodies.State a) (bodies.State b) h = ap bodies.State (eqb-true a b h)
same_body-is _ _ h = cc

pub same_state-is : (a b : State) → same_state a b ≡ true → a ≡ b
same_state-is (state.Path a t b) (state.Path a' t' b') h =
    let p = and_parts (same_axis a a' && same_test t t') (same_body b b') h in
    let q = and_parts (same_axis a a') (same_test t t') p.0 in
    let x = same_axis-is a a' q.0 in
    let y = same_test-is t t' q.1 in
    let z = same_body-is b b' p.1 in
    cc
same_state-is (state.And ps) (state.And qs) h = ap state.And ((bytes_eq-Decides ps qs).0 h)
same_state-is (state.Or ps) (state.Or qs) h = ap state.Or ((bytes_eq-Decides ps qs).0 h)
same_state-is (state.Not p) (state.Not q) h = ap state.Not (eqb-true p q h)
same_state-is (state.Value r x) (state.Value q y) h =
    let p = and_parts (same_relation r q) (same_value x y) h in
    let u = same_relation-is r q p.0 in
    let w = same_value-is x y p.1 in
    cc
same_state-is _ _ h = cc
