-- What the tables of a program keep.
use Rattle.std.specs.Prelude.{◌≡◌, ℕ, ◌-◌, Bool, not, cond, List, length, map, Option, Some, None, nat_lt, slice_get, bytes_eq}
use Rattle.std.specs.List.{list_any}
use Rattle.px_xpath.specs.declared.filter.Value.{Value}
use Rattle.px_xpath.specs.declared.filter.Value.TheVariants.{Number, Literal}
use Rattle.px_afa.specs.declared.state.State.{State}
use Rattle.px_afa.specs.declared.names.Names.{Names}
use Rattle.px_afa.specs.declared.literals.Literals.{Literals}
use Rattle.px_afa.specs.Contents.{Kind, ElementKind, AttributeKind}
use Rattle.px_afa.specs.Labels.{contains_kind, label_number, is_element_kind, is_attribute_kind}
use Rattle.px_afa.specs.Classes.{class_of_text}
use Rattle.px_afa.specs.Tables.{guard_of}
use Rattle.px_afa.specs.Dictionaries.{found}
use Rattle.px_afa.specs.Lists.{flat}

-- the label of a name, where some state tests it
abbrev pub known_label : List Kind → Kind → Option ℕ
known_label kinds kind = cond (contains_kind kinds kind) (Some (label_number kinds kind)) None

abbrev pub is_element_name : Kind → Bool
is_element_name kind = is_element_kind (Some kind)

abbrev pub is_attribute_name : Kind → Bool
is_attribute_name kind = is_attribute_kind (Some kind)

-- the table has these names
pub record AreNames (names : Names) (kinds : List Kind) : Type 0 where
  pub elements : (name : List ℕ) → found names.elements name ≡ known_label kinds (ElementKind name)
  pub attributes : (name : List ℕ) → found names.attributes name ≡ known_label kinds (AttributeKind name)
  pub are_elements : names.are_elements.items ≡ map is_element_name kinds
  pub are_attributes : map not names.are_elements.items ≡ map is_attribute_name kinds

-- what is kept for a label from 3 on
abbrev pub flag_at : List Bool → (label : ℕ) → Option Bool
flag_at flags label = cond (nat_lt label 3) None (slice_get flags (label - 3))

abbrev pub literal_in : Value → Option (List ℕ)
literal_in (Literal text) = Some text
literal_in (Number units) = None

-- the class of a literal
abbrev pub known_class : List (List ℕ) → List ℕ → Option ℕ
known_class literals text = cond (list_any (λ literal. bytes_eq literal text) literals) (Some (class_of_text 1 literals text)) None

-- the table has these literals
pub record AreLiterals (table : Literals) (literals : List (List ℕ)) : Type 0 where
  pub classes : (text : List ℕ) → found table.classes text ≡ known_class literals text
  pub count : table.count ≡ length literals

-- the guard of each state
abbrev pub AreGuards : List (Option ℕ) → List State → Type 0
AreGuards guards states = (n : ℕ) → flat (slice_get guards n) ≡ guard_of states n
