-- The test tells which filters are the same, as that of each part does.
use Rattle.std.proofs.Common.{◌≡◌, refl, ap}
use Rattle.std.specs.Bool.{Decides}
use Rattle.std.proofs.lemmas.Bool.Decides.{Decides-like, Decides-and}
use Rattle.px_xpath.specs.declared.filter.Axis.{Axis}
use Rattle.px_xpath.specs.declared.filter.Test.{Test}
use Rattle.px_xpath.specs.declared.filter.Relation.{Relation}
use Rattle.px_xpath.specs.declared.filter.Value.{Value}
use Rattle.px_xpath.specs.Filters.{Way, Arrived, StepThen, Condition, Selects, Compares, EachOf, SomeOf, Fails, Conditions, NoConditions, CondThen}
use Rattle.px_delta.specs.Sameness.{same_axis, same_test, same_relation, same_value, same_way, same_conditions, same_condition}

pub record TellParts : Type 0 where
  pub axes : (a b : Axis) → Decides (same_axis a b) (a ≡ b)
  pub tests : (a b : Test) → Decides (same_test a b) (a ≡ b)
  pub relations : (a b : Relation) → Decides (same_relation a b) (a ≡ b)
  pub values : (a b : Value) → Decides (same_value a b) (a ≡ b)

mutual
  pub way_told : TellParts → (a b : Way) → Decides (same_way a b) (a ≡ b)
  way_told t Arrived Arrived = (λ e. refl, λ e. refl)
  way_told t (StepThen x u cs o) (StepThen y v ds p) =
      Decides-like _ (λ h. rw (h.0.0.0, h.0.0.1, h.0.1, h.1) refl) (λ e. (((cc, cc), cc), cc))
      (Decides-and _ _ (Decides-and _ _ (Decides-and _ _ (t.axes x y) (t.tests u v)) (conditions_told t cs ds)) (way_told t o p))
  way_told t Arrived (StepThen y v ds p) = (λ e. absurd (cc), λ e. absurd (cc))
  way_told t (StepThen x u cs o) Arrived = (λ e. absurd (cc), λ e. absurd (cc))

  conditions_told : TellParts → (a b : Conditions) → Decides (same_conditions a b) (a ≡ b)
  conditions_told t NoConditions NoConditions = (λ e. refl, λ e. refl)
  conditions_told t (CondThen c cs) (CondThen d ds) =
      Decides-like _ (λ h. rw (h.0, h.1) refl) (λ e. (cc, cc)) (Decides-and _ _ (condition_told t c d) (conditions_told t cs ds))
  conditions_told t NoConditions (CondThen d ds) = (λ e. absurd (cc), λ e. absurd (cc))
  conditions_told t (CondThen c cs) NoConditions = (λ e. absurd (cc), λ e. absurd (cc))

  condition_told : TellParts → (a b : Condition) → Decides (same_condition a b) (a ≡ b)
  condition_told t (Selects o) (Selects p) = Decides-like _ (λ h. ap Selects h) (λ e. cc) (way_told t o p)
  condition_told t (Compares o r v) (Compares p s w) =
      Decides-like _ (λ h. rw (h.0.0, h.0.1, h.1) refl) (λ e. ((cc, cc), cc)) (Decides-and _ _ (Decides-and _ _ (t.relations r s) (t.values v w)) (way_told t o p))
  condition_told t (EachOf cs) (EachOf ds) = Decides-like _ (λ h. ap EachOf h) (λ e. cc) (conditions_told t cs ds)
  condition_told t (SomeOf cs) (SomeOf ds) = Decides-like _ (λ h. ap SomeOf h) (λ e. cc) (conditions_told t cs ds)
  condition_told t (Fails c) (Fails d) = Decides-like _ (λ h. ap Fails h) (λ e. cc) (condition_told t c d)
  condition_told t _ _ = (λ e. absurd (cc), λ e. absurd (cc))
