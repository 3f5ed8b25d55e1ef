-- The machine over a document: one set for each node that gathers what its children make true.
use Rattle.std.specs.Prelude.{◌≡◌, ℕ, false, List, [], Option, Some}
use Rattle.px_text.specs.Sets.{has}
use Rattle.px_xpath.specs.declared.filter.Axis.{Axis}
use Rattle.px_xpath.specs.declared.filter.Test.{Test}
use Rattle.px_xpath.specs.declared.filter.Relation.{Relation}
use Rattle.px_xpath.specs.declared.filter.Value.{Value}
use Rattle.px_xpath.specs.Meaning.{compares}
use Rattle.px_afa.specs.declared.state.Body.{Body}
use Rattle.px_afa.specs.declared.state.State.{State}
use Rattle.px_afa.specs.declared.state.State.TheVariants as state
use Rattle.px_afa.specs.Contents.{Kind, ElementKind, Content, Empty, Leaf, Element, leaf_kind, characters}
use Rattle.px_afa.specs.Truth.{state_at, meets, is_element}
use Rattle.px_afa.specs.Sets.{add, mask, pop_of, push_of, Label}
use Rattle.px_afa.specs.Labels.{names_of, label_number, label_at}
use Rattle.px_afa.specs.Classes.{text_class, number_class}
use Rattle.px_afa.specs.Functions.{value_text, value_number}

-- what the machine looks at: the states, the label of a child, and the Value states that a text makes true
pub record Machine : Type 0 where
  pub states : List State
  pub label_of : Kind → Label
  pub text_values : List ℕ → List ℕ
  pub number_values : List ℕ → List ℕ

-- the machine of a program's states
abbrev pub machine_of : List State → Machine
machine_of states = record {
  states = states;
  label_of = λ kind. label_at states (label_number (names_of states) kind);
  text_values = λ text. value_text states (text_class states text);
  number_values = λ text. value_number states (number_class states text);
}

abbrev pub values_of : Machine → List ℕ → List ℕ
values_of machine text = add (machine.text_values text) (machine.number_values text)

-- The labels and values tell what the states test.
pub record IsTold (machine : Machine) : Type 0 where
  pub tests : (n : ℕ) (axis : Axis) (test : Test) (body : Body) → state_at machine.states n ≡ Some (state.Path axis test body) →
      (kind : Kind) → (machine.label_of kind).meets_test test ≡ meets test kind
  pub elements : (kind : Kind) → (machine.label_of kind).of_element ≡ is_element kind
  pub values : (n : ℕ) (r : Relation) (wanted : Value) → state_at machine.states n ≡ Some (state.Value r wanted) →
      (text : List ℕ) → has (values_of machine text) n ≡ compares r wanted text
  pub no_paths : (n : ℕ) (axis : Axis) (test : Test) (body : Body) → state_at machine.states n ≡ Some (state.Path axis test body) →
      (text : List ℕ) → has (values_of machine text) n ≡ false

-- what a node has gathered, after a leaf and after an element whose own children gathered `inner`
abbrev pub after_leaf : Machine → (needed gathered : List ℕ) → (name : Option (List ℕ)) → (value : List ℕ) → List ℕ
after_leaf machine needed gathered name value =
    add gathered (mask (pop_of machine.states (values_of machine value) (machine.label_of (leaf_kind name))) needed)

abbrev pub after_element : Machine → (needed gathered name text inner : List ℕ) → List ℕ
after_element machine needed gathered name text inner =
    add gathered (mask (pop_of machine.states (add inner (values_of machine text)) (machine.label_of (ElementKind name))) needed)

abbrev pub needed_inside : Machine → (needed name : List ℕ) → List ℕ
needed_inside machine needed name = push_of machine.states needed (machine.label_of (ElementKind name))

-- what a node has gathered after some children
abbrev pub gathered_of : Machine → (needed gathered : List ℕ) → Content → List ℕ
gathered_of machine needed gathered Empty = gathered
gathered_of machine needed gathered (Leaf name value rest) = gathered_of machine needed (after_leaf machine needed gathered name value) rest
gathered_of machine needed gathered (Element name inside rest) =
    gathered_of machine needed
    (after_element machine needed gathered name (characters inside) (gathered_of machine (needed_inside machine needed name) [] inside)) rest

-- the same where every state is kept
abbrev pub all_gathered : Machine → (gathered : List ℕ) → Content → List ℕ
all_gathered machine gathered Empty = gathered
all_gathered machine gathered (Leaf name value rest) =
    all_gathered machine (add gathered (pop_of machine.states (values_of machine value) (machine.label_of (leaf_kind name)))) rest
all_gathered machine gathered (Element name inside rest) =
    all_gathered machine
    (add gathered (pop_of machine.states (add (all_gathered machine [] inside) (values_of machine (characters inside))) (machine.label_of (ElementKind name))))
    rest
