-- Conditions of different kinds are different.
use Rattle.std.proofs.Common.{◌≡◌, List, false, refl, sym, ap, ◌∙◌, ◌⊎◌, inl, inr}
use Rattle.px_xpath.specs.declared.filter.Cond.{Cond, Exists, Compare, And, Or, Not, Cond-F, out-Cond, roll-Cond, roll-out-Cond}
use Rattle.px_xpath.specs.declared.filter.Cond.TheOpen as layer
use Rattle.px_xpath.specs.declared.filter.Cond.TheVariants.{rolls-Exists, rolls-Compare, rolls-And, rolls-Or, rolls-Not}
use Rattle.px_xpath.specs.declared.filter.Path.{Path}
use Rattle.px_xpath.specs.declared.filter.Relation.{Relation}
use Rattle.px_xpath.specs.declared.filter.Step.{Step}
use Rattle.px_xpath.specs.declared.filter.Value.{Value}
use Rattle.px_xpath.specs.Filters.{Condition, Selects, Compares, EachOf, SomeOf, Fails}
use Rattle.px_xpath.specs.Views.{condition, conditions, way}
use Rattle.px_xpath.proofs.FilterViews.{condition-And, condition-Or, condition-Not}
use Rattle.px_delta.specs.Sameness.{same_condition}

-- a condition with what it is made of, and what it is
abbrev Selecting : Cond → Type 0
Selecting c = (p : Path) × (c ≡ Exists p) × (condition c ≡ Selects (way p))

abbrev Comparing : Cond → Type 0
Comparing c = (p : Path) × (r : Relation) × (v : Value) × (c ≡ Compare p r v) × (condition c ≡ Compares (way p) r v)

abbrev Joining : Cond → Type 0
Joining c = (cs : List Cond) × (c ≡ And cs) × (condition c ≡ EachOf (conditions cs))

abbrev Choosing : Cond → Type 0
Choosing c = (cs : List Cond) × (c ≡ Or cs) × (condition c ≡ SomeOf (conditions cs))

abbrev Denying : Cond → Type 0
Denying c = (d : Cond) × (c ≡ Not d) × (condition c ≡ Fails (condition d))

abbrev IsOneOf : Cond → Type 0
IsOneOf c = Selecting c ⊎ (Comparing c ⊎ (Joining c ⊎ (Choosing c ⊎ Denying c)))

is_one_of : (c : Cond) → IsOneOf c
is_one_of c = by_layer (out-Cond c) (sym (roll-out-Cond c))
  where
    by_layer : (l : Cond-F Cond Path Step) → c ≡ roll-Cond l → IsOneOf c
    by_layer (layer.Exists p) e = let f = e ∙ rolls-Exists p in inl (p, f, ap condition f)
    by_layer (layer.Compare p r v) e = let f = e ∙ rolls-Compare p r v in inr (inl (p, r, v, f, ap condition f))
    by_layer (layer.And cs) e = let f = e ∙ rolls-And cs in inr (inr (inl (cs, f, ap condition f ∙ condition-And cs)))
    by_layer (layer.Or cs) e = let f = e ∙ rolls-Or cs in inr (inr (inr (inl (cs, f, ap condition f ∙ condition-Or cs))))
    by_layer (layer.Not d) e = let f = e ∙ rolls-Not d in inr (inr (inr (inr (d, f, ap condition f ∙ condition-Not d))))

-- two conditions of which one is this and the other that
told : (a c : Cond) (j k : Condition) → condition a ≡ j → condition c ≡ k → false ≡ same_condition j k → false ≡ same_condition (condition a) (condition c)
told a c j k ea ec h = rw (ea, ec) h

pub not_selecting : (a c : Cond) (p : Path) → a ≡ Exists p → ((x : Path) → c ≡ Exists x → ⊥) → false ≡ same_condition (condition a) (condition c)
not_selecting a c p is n = by_kind (is_one_of c)
  where
    by_kind : IsOneOf c → false ≡ same_condition (condition a) (condition c)
    by_kind (inl q) = absurd (n q.0 q.1)
    by_kind (inr (inl q)) = told a c _ _ (ap condition is) q.4 refl
    by_kind (inr (inr (inl q))) = told a c _ _ (ap condition is) q.2 refl
    by_kind (inr (inr (inr (inl q)))) = told a c _ _ (ap condition is) q.2 refl
    by_kind (inr (inr (inr (inr q)))) = told a c _ _ (ap condition is) q.2 refl

pub not_comparing : (a c : Cond) (p : Path) (r : Relation) (v : Value) → a ≡ Compare p r v → ((x : Path) (y : Relation) (z : Value) → c ≡ Compare x y z → ⊥) → false ≡ same_condition (condition a) (condition c)
not_comparing a c p r v is n = by_kind (is_one_of c)
  where
    by_kind : IsOneOf c → false ≡ same_condition (condition a) (condition c)
    by_kind (inl q) = told a c _ _ (ap condition is) q.2 refl
    by_kind (inr (inl q)) = absurd (n q.0 q.1 q.2 q.3)
    by_kind (inr (inr (inl q))) = told a c _ _ (ap condition is) q.2 refl
    by_kind (inr (inr (inr (inl q)))) = told a c _ _ (ap condition is) q.2 refl
    by_kind (inr (inr (inr (inr q)))) = told a c _ _ (ap condition is) q.2 refl

pub not_joining : (a c : Cond) (cs : List Cond) → a ≡ And cs → ((x : List Cond) → c ≡ And x → ⊥) → false ≡ same_condition (condition a) (condition c)
not_joining a c cs is n = by_kind (is_one_of c)
  where
    by_kind : IsOneOf c → false ≡ same_condition (condition a) (condition c)
    by_kind (inl q) = told a c _ _ (ap condition is ∙ condition-And cs) q.2 refl
    by_kind (inr (inl q)) = told a c _ _ (ap condition is ∙ condition-And cs) q.4 refl
    by_kind (inr (inr (inl q))) = absurd (n q.0 q.1)
    by_kind (inr (inr (inr (inl q)))) = told a c _ _ (ap condition is ∙ condition-And cs) q.2 refl
    by_kind (inr (inr (inr (inr q)))) = told a c _ _ (ap condition is ∙ condition-And cs) q.2 refl

pub not_choosing : (a c : Cond) (cs : List Cond) → a ≡ Or cs → ((x : List Cond) → c ≡ Or x → ⊥) → false ≡ same_condition (condition a) (condition c)
not_choosing a c cs is n = by_kind (is_one_of c)
  where
    by_kind : IsOneOf c → false ≡ same_condition (condition a) (condition c)
    by_kind (inl q) = told a c _ _ (ap condition is ∙ condition-Or cs) q.2 refl
    by_kind (inr (inl q)) = told a c _ _ (ap condition is ∙ condition-Or cs) q.4 refl
    by_kind (inr (inr (inl q))) = told a c _ _ (ap condition is ∙ condition-Or cs) q.2 refl
    by_kind (inr (inr (inr (inl q)))) = absurd (n q.0 q.1)
    by_kind (inr (inr (inr (inr q)))) = told a c _ _ (ap condition is ∙ condition-Or cs) q.2 refl

pub not_denying : (a c : Cond) (d : Cond) → a ≡ Not d → ((x : Cond) → c ≡ Not x → ⊥) → false ≡ same_condition (condition a) (condition c)
not_denying a c d is n = by_kind (is_one_of c)
  where
    by_kind : IsOneOf c → false ≡ same_condition (condition a) (condition c)
    by_kind (inl q) = told a c _ _ (ap condition is ∙ condition-Not d) q.2 refl
    by_kind (inr (inl q)) = told a c _ _ (ap condition is ∙ condition-Not d) q.4 refl
    by_kind (inr (inr (inl q))) = told a c _ _ (ap condition is ∙ condition-Not d) q.2 refl
    by_kind (inr (inr (inr (inl q)))) = told a c _ _ (ap condition is ∙ condition-Not d) q.2 refl
    by_kind (inr (inr (inr (inr q)))) = absurd (n q.0 q.1)
