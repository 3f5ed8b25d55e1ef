-- The steps of the machine over a document, each with its operation, its operands and its answer.
use Rattle.std.specs.Prelude.{◌≡◌, ℕ, List, [], ◌∷◌, ◌++◌, length, Option}
use Rattle.px_text.specs.declared.op.Op.{Op}
use Rattle.px_text.specs.declared.op.Op.TheVariants.{TextClass, NumberClass, Pop, Add, Push, Mask}
use Rattle.px_text.specs.Operands.{Operand, index, set_of}
use Rattle.px_text.specs.Nodes.{Root}
use Rattle.px_xpath.specs.Histories.{Change}
use Rattle.px_afa.specs.declared.state.State.{State}
use Rattle.px_afa.specs.Contents.{Kind, ElementKind, Content, Empty, Leaf, Element, leaf_kind, characters, root_content}
use Rattle.px_afa.specs.Building.{Automata, program}
use Rattle.px_afa.specs.Sets.{add, mask, first_set}
use Rattle.px_afa.specs.Labels.{label_number, names_of}
use Rattle.px_afa.specs.Classes.{text_class, number_class}
use Rattle.px_afa.specs.Functions.{value_text, value_number, pop, push}
use Rattle.px_afa.specs.Machine.{machine_of, values_of, after_leaf, after_element, needed_inside, gathered_of}

pub record Step : Type 0 where
  pub op : Op
  pub a : Operand
  pub b : Operand
  pub answer : List ℕ

-- what an operation answers under the states of a program
abbrev pub answer_of : List State → Op → Operand → Operand → List ℕ
answer_of states TextClass a (index class) = value_text states class
answer_of states NumberClass a (index class) = value_number states class
answer_of states Pop (set_of set) (index label) = pop states set label
answer_of states Add (set_of a) (set_of b) = add a b
answer_of states Push (set_of wanted) (index label) = push states wanted label
answer_of states Mask (set_of a) (set_of b) = mask a b
answer_of states _ a b = []

-- an operation takes such operands: a value function has 0 as its first
abbrev pub TakesOperands : Op → Operand → Operand → Type 0
TakesOperands TextClass (index first) (index class) = first ≡ 0
TakesOperands NumberClass (index first) (index class) = first ≡ 0
TakesOperands Pop (set_of set) (index label) = Unit {0}
TakesOperands Add (set_of a) (set_of b) = Unit {0}
TakesOperands Push (set_of wanted) (index label) = Unit {0}
TakesOperands Mask (set_of a) (set_of b) = Unit {0}
TakesOperands _ a b = ⊥

abbrev pub step : List State → Op → Operand → Operand → Step
step states op a b = record { op = op; a = a; b = b; answer = answer_of states op a b }

-- the values of a text by its classes, 3 steps
abbrev pub value_steps : List State → List ℕ → List Step
value_steps states text =
    let text_set = value_text states (text_class states text) in
    let number_set = value_number states (number_class states text) in
    step states TextClass (index 0) (index (text_class states text))
    ∷ step states NumberClass (index 0) (index (number_class states text))
    ∷ step states Add (set_of text_set) (set_of number_set)
    ∷ []

-- what a child of this label with its set gives to its parent, 3 steps
abbrev pub raise_steps : List State → (needed gathered set : List ℕ) → (label : ℕ) → List Step
raise_steps states needed gathered set label =
    let popped = pop states set label in
    let masked = mask popped needed in
    step states Pop (set_of set) (index label)
    ∷ step states Mask (set_of popped) (set_of needed)
    ∷ step states Add (set_of gathered) (set_of masked)
    ∷ []

abbrev pub label_of : List State → Kind → ℕ
label_of states kind = label_number (names_of states) kind

-- a leaf takes 6 steps
abbrev pub leaf_steps : List State → (needed gathered : List ℕ) → (name : Option (List ℕ)) → (value : List ℕ) → List Step
leaf_steps states needed gathered name value =
    value_steps states value ++ raise_steps states needed gathered (values_of (machine_of states) value) (label_of states (leaf_kind name))

-- the start of an element takes 1 step
abbrev pub start_steps : List State → (needed name : List ℕ) → List Step
start_steps states needed name = step states Push (set_of needed) (index (label_of states (ElementKind name))) ∷ []

-- and its end 7
abbrev pub end_steps : List State → (needed gathered name text inner : List ℕ) → List Step
end_steps states needed gathered name text inner =
    let values = values_of (machine_of states) text in
    value_steps states text
    ++ (step states Add (set_of inner) (set_of values) ∷ raise_steps states needed gathered (add inner values) (label_of states (ElementKind name)))

-- the steps of some children, in order
abbrev pub run_from : List State → (needed gathered : List ℕ) → Content → List Step
run_from states needed gathered Empty = []
run_from states needed gathered (Leaf name value rest) =
    leaf_steps states needed gathered name value ++ run_from states needed (after_leaf (machine_of states) needed gathered name value) rest
run_from states needed gathered (Element name inside rest) =
    let wanted = needed_inside (machine_of states) needed name in
    let inner = gathered_of (machine_of states) wanted [] inside in
    (start_steps states needed name ++ (run_from states wanted [] inside ++ end_steps states needed gathered name (characters inside) inner))
    ++ run_from states needed (after_element (machine_of states) needed gathered name (characters inside) inner) rest

-- the steps of a program over a document
abbrev pub run_of : Automata → Root → List Step
run_of automata root = run_from automata.states (first_set automata.firsts) [] (root_content root)

-- the steps of the filters that are live behind a history
abbrev pub run : List Change → Root → List Step
run history root = run_of (program history) root

abbrev pub steps_of : List Change → Root → ℕ
steps_of history root = length (run history root)
