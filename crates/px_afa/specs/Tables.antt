-- What states are looked up by, so that a function on sets need not go over all of them.
use Rattle.std.specs.Prelude.{◌≡◌, ◌⊎◌, ℕ, ◌<◌, Bool, true, false, not, ◌&&◌, ◌||◌, cond, List, [], ◌∷◌, length, slice_get, Option, Some, None, nat_eq}
use Rattle.std.specs.List.{list_any}
use Rattle.px_xpath.specs.declared.filter.Test.{Test}
use Rattle.px_xpath.specs.declared.filter.Test.TheVariants as test
use Rattle.px_xpath.specs.declared.filter.Relation.{Relation}
use Rattle.px_xpath.specs.declared.filter.Relation.TheVariants as relation
use Rattle.px_xpath.specs.declared.filter.Value.TheVariants.{Number, Literal}
use Rattle.px_afa.specs.declared.state.Body.{Body}
use Rattle.px_afa.specs.declared.state.Body.TheVariants as body
use Rattle.px_afa.specs.declared.state.State.{State}
use Rattle.px_afa.specs.declared.state.State.TheVariants as state
use Rattle.px_afa.specs.declared.state.Related.{Related}
use Rattle.px_afa.specs.Contents.{Kind, ElementKind, AttributeKind}
use Rattle.px_afa.specs.Truth.{state_at}
use Rattle.px_afa.specs.Building.{same_relation}
use Rattle.px_afa.specs.Sets.{Label, numbers_where}
use Rattle.px_afa.specs.Labels.{names_of, label_number, is_element_label, is_attribute_label}
use Rattle.px_afa.specs.Classes.{text_class, constant_class}

-- the numbers of the states that pass, rising
abbrev pub states_where : List State → (Option State → Bool) → List ℕ
states_where states passes = numbers_where (length states) (λ n. passes (state_at states n))

-- a Path state whose test the label meets
abbrev pub is_met : Label → Option State → Bool
is_met label (Some (state.Path axis t b)) = label.meets_test t
is_met label _ = false

-- A Value state, or the Path state of an attribute or a text. Few nodes have such a state in their sets.
abbrev pub is_rare : Option State → Bool
is_rare (Some (state.Value r wanted)) = true
is_rare (Some (state.Path axis (test.Attribute name) b)) = true
is_rare (Some (state.Path axis test.AnyAttribute b)) = true
is_rare (Some (state.Path axis test.Text b)) = true
is_rare _ = false

-- the first of two guards, unless the second alone is rare
abbrev pub rarer : (is_rare : ℕ → Bool) → Option ℕ → Option ℕ → Option ℕ
rarer is_rare None other = other
rarer is_rare (Some g) None = Some g
rarer is_rare (Some g) (Some h) = cond (is_rare g || not (is_rare h)) (Some g) (Some h)

abbrev pub guard_of_parts : (is_rare : ℕ → Bool) → (part : ℕ → Option ℕ) → List ℕ → Option ℕ
guard_of_parts is_rare part [] = None
guard_of_parts is_rare part (p ∷ parts) = rarer is_rare (part p) (guard_of_parts is_rare part parts)

abbrev pub guard_state : State → ℕ → (is_rare : ℕ → Bool) → (part : ℕ → Option ℕ) → Option ℕ
guard_state (state.Path axis t b) n is_rare part = Some n
guard_state (state.Value r wanted) n is_rare part = Some n
guard_state (state.And parts) n is_rare part = guard_of_parts is_rare part parts
guard_state (state.Or parts) n is_rare part = None
guard_state (state.Not m) n is_rare part = None

-- the guard of a state: a state that is in each set in which it is true, where one is known
abbrev pub guard_of : List State → ℕ → Option ℕ
guard_of [] n = None
guard_of (s ∷ before) n =
    cond (nat_eq n (length before)) (guard_state s n (λ g. is_rare (state_at before g)) (guard_of before)) (guard_of before n)

abbrev pub body_guard : List State → Body → Option ℕ
body_guard states body.Always = None
body_guard states (body.State n) = guard_of states n

abbrev pub is_under : List State → (guard : ℕ) → Option ℕ → Bool
is_under states guard None = false
is_under states guard (Some g) = nat_eq guard g

abbrev pub is_guarded_by : List State → (guard : ℕ) → Option State → Bool
is_guarded_by states guard (Some (state.Path axis t b)) = is_under states guard (body_guard states b)
is_guarded_by states guard _ = false

-- the Path states whose body has this guard
abbrev pub guarded_by : List State → (guard : ℕ) → List ℕ
guarded_by states guard = states_where states (is_guarded_by states guard)

abbrev pub is_none : Option ℕ → Bool
is_none None = true
is_none (Some g) = false

abbrev pub is_unguarded : List State → Option State → Bool
is_unguarded states (Some (state.Path axis t b)) = is_none (body_guard states b)
is_unguarded states _ = false

-- whether the label is the one that meets a test of a name, or of texts
abbrev pub is_exactly : List Kind → (label : ℕ) → Test → Bool
is_exactly names label (test.Element name) = nat_eq label (label_number names (ElementKind name))
is_exactly names label (test.Attribute name) = nat_eq label (label_number names (AttributeKind name))
is_exactly names label test.Text = nat_eq label 0
is_exactly names label _ = false

abbrev pub tests_exactly : List Kind → (label : ℕ) → Option State → Bool
tests_exactly names label (Some (state.Path axis t b)) = is_exactly names label t
tests_exactly names label _ = false

abbrev pub tests_any_element : Option State → Bool
tests_any_element (Some (state.Path axis test.AnyElement b)) = true
tests_any_element _ = false

abbrev pub tests_any_attribute : Option State → Bool
tests_any_attribute (Some (state.Path axis test.AnyAttribute b)) = true
tests_any_attribute _ = false

-- the Path states without a guard that test the very name of a label, or texts
abbrev pub unguarded_exactly : List State → (label : ℕ) → List ℕ
unguarded_exactly states label = states_where states (λ s. is_unguarded states s && tests_exactly (names_of states) label s)

-- those that test any name, where the label is an element's or an attribute's
abbrev pub tests_loosely : List Kind → (label : ℕ) → Option State → Bool
tests_loosely names label s =
    (is_element_label names label && tests_any_element s) || (is_attribute_label names label && tests_any_attribute s)

abbrev pub unguarded_loosely : List State → (label : ℕ) → List ℕ
unguarded_loosely states label = states_where states (λ s. is_unguarded states s && tests_loosely (names_of states) label s)

-- the Value states with this relation to the literal of the text class
abbrev pub relates_text : List State → Relation → (class : ℕ) → Option State → Bool
relates_text states r class (Some (state.Value q (Literal text))) = same_relation r q && nat_eq class (text_class states text)
relates_text states r class _ = false

abbrev pub equal_texts : List State → (class : ℕ) → List ℕ
equal_texts states class = states_where states (relates_text states relation.Equal class)

-- the Value states `!=` of a literal
abbrev pub is_unequal_text : Option State → Bool
is_unequal_text (Some (state.Value relation.NotEqual (Literal text))) = true
is_unequal_text _ = false

abbrev pub unequal_texts : List State → List ℕ
unequal_texts states = states_where states is_unequal_text

-- the Value states with this relation to a number
abbrev pub relates_number : Relation → Option State → Bool
relates_number r (Some (state.Value q (Number units))) = same_relation r q
relates_number r _ = false

-- the class of a Value state's own value, and 0 of any other state
abbrev pub own_class : List State → Option State → ℕ
own_class states (Some (state.Value r (Literal text))) = text_class states text
own_class states (Some (state.Value r (Number units))) = constant_class states units
own_class states _ = 0

-- The entries are the Value states with this relation to a number, each with the class of its number, by rising classes.
pub record AreRelated (states : List State) (r : Relation) (entries : List Related) : Type 0 where
  pub each : (i : ℕ) (e : Related) → slice_get entries i ≡ Some e →
      (relates_number r (state_at states e.state) ≡ true) × (e.class ≡ own_class states (state_at states e.state))
  pub all : (n : ℕ) → relates_number r (state_at states n) ≡ true → list_any (λ e. nat_eq e.state n) entries ≡ true
  pub rising : (i j : ℕ) (e f : Related) → i < j → slice_get entries i ≡ Some e → slice_get entries j ≡ Some f →
      (e.class < f.class) ⊎ ((e.class ≡ f.class) × (e.state < f.state))
