-- The labels of children: numbers that say which tests of the states they meet.
use Rattle.std.specs.Prelude.{ℕ, suc, Bool, true, false, ◌||◌, cond, List, [], ◌∷◌, ◌++◌, Option, Some, None, nat_eq, bytes_eq}
use Rattle.std.specs.List.{list_any}
use Rattle.px_xpath.specs.declared.filter.Test.{Test}
use Rattle.px_xpath.specs.declared.filter.Test.TheVariants as test
use Rattle.px_afa.specs.declared.state.State.{State}
use Rattle.px_afa.specs.declared.state.State.TheVariants as state
use Rattle.px_afa.specs.Contents.{Kind, ElementKind, AttributeKind, TextKind}
use Rattle.px_afa.specs.Sets.{Label}

abbrev pub same_kind : Kind → Kind → Bool
same_kind (ElementKind a) (ElementKind b) = bytes_eq a b
same_kind (AttributeKind a) (AttributeKind b) = bytes_eq a b
same_kind TextKind TextKind = true
same_kind _ _ = false

-- the name that a test tests
abbrev pub tested : Test → Option Kind
tested (test.Element name) = Some (ElementKind name)
tested (test.Attribute name) = Some (AttributeKind name)
tested _ = None

abbrev pub state_name : State → Option Kind
state_name (state.Path axis t b) = tested t
state_name _ = None

abbrev pub contains_kind : List Kind → Kind → Bool
contains_kind names kind = list_any (λ name. same_kind name kind) names

abbrev pub with_name : Option Kind → List Kind → List Kind
with_name None names = names
with_name (Some kind) names = cond (contains_kind names kind) names (names ++ kind ∷ [])

-- The names that states test, in order of the first state that tests them. An element's name and an attribute's are two names.
abbrev pub names_of : List State → List Kind
names_of [] = []
names_of (s ∷ before) = with_name (state_name s) (names_of before)

-- the place of a name, counted from i, or another number where it is none of them
abbrev pub place_of : (other i : ℕ) → List Kind → Kind → ℕ
place_of other i [] kind = other
place_of other i (name ∷ names) kind = cond (same_kind name kind) i (place_of other (suc i) names kind)

-- 0 is text, 1 an element name and 2 an attribute name that no state tests, and from 3 on stand the names
abbrev pub label_number : List Kind → Kind → ℕ
label_number names (ElementKind name) = place_of 1 3 names (ElementKind name)
label_number names (AttributeKind name) = place_of 2 3 names (AttributeKind name)
label_number names TextKind = 0

abbrev pub kind_at : ℕ → List Kind → ℕ → Option Kind
kind_at i [] label = None
kind_at i (name ∷ names) label = cond (nat_eq label i) (Some name) (kind_at (suc i) names label)

abbrev pub is_element_kind : Option Kind → Bool
is_element_kind (Some (ElementKind name)) = true
is_element_kind _ = false

abbrev pub is_attribute_kind : Option Kind → Bool
is_attribute_kind (Some (AttributeKind name)) = true
is_attribute_kind _ = false

-- the label is an element's
abbrev pub is_element_label : List Kind → ℕ → Bool
is_element_label names label = nat_eq label 1 || is_element_kind (kind_at 3 names label)

-- the label is an attribute's
abbrev pub is_attribute_label : List Kind → ℕ → Bool
is_attribute_label names label = nat_eq label 2 || is_attribute_kind (kind_at 3 names label)

abbrev pub label_meets : List Kind → ℕ → Test → Bool
label_meets names label (test.Element name) = nat_eq label (label_number names (ElementKind name))
label_meets names label test.AnyElement = is_element_label names label
label_meets names label (test.Attribute name) = nat_eq label (label_number names (AttributeKind name))
label_meets names label test.AnyAttribute = is_attribute_label names label
label_meets names label test.Text = nat_eq label 0

abbrev pub label_in : List Kind → ℕ → Label
label_in names label = record { meets_test = label_meets names label; of_element = is_element_label names label }

-- the label of this number under some states
abbrev pub label_at : List State → ℕ → Label
label_at states label = label_in (names_of states) label
