-- The machine fed by the events of a document: what it keeps for the elements that are open, and the steps of each event.
use Rattle.std.specs.Prelude.{ℕ, List, [], ◌∷◌, ◌++◌, Option, Some, None}
use Rattle.px_text.specs.declared.op.Op.TheVariants.{Add}
use Rattle.px_text.specs.Operands.{set_of}
use Rattle.px_reader.specs.declared.event.Event.{Event}
use Rattle.px_reader.specs.declared.event.Event.TheVariants.{Start, Attr, Text, End}
use Rattle.px_afa.specs.declared.state.State.{State}
use Rattle.px_afa.specs.Contents.{ElementKind, leaf_kind, leaf_text}
use Rattle.px_afa.specs.Building.{Automata}
use Rattle.px_afa.specs.Sets.{add, mask, first_set}
use Rattle.px_afa.specs.Functions.{pop, push}
use Rattle.px_afa.specs.Machine.{machine_of, values_of}
use Rattle.px_afa.specs.Steps.{Step, step, value_steps, raise_steps, label_of, leaf_steps, start_steps}

-- An open element, or the document root: its label, the states that are needed of it, those that it has gathered, and its
-- text so far, without that of a child that is open. The document root has no label.
pub record Open : Type 0 where
  pub label : ℕ
  pub needed : List ℕ
  pub gathered : List ℕ
  pub text : List ℕ

-- the elements that are open, the others from the inside out; the last of all is the document root
pub record Opened : Type 0 where
  pub innermost : Open
  pub outer : List Open

-- the element after a child with the label, the set and the text
abbrev pub with_child : List State → Open → (set : List ℕ) → (label : ℕ) → (text : List ℕ) → Open
with_child states o set label text = record {
  label = o.label;
  needed = o.needed;
  gathered = add o.gathered (mask (pop states set label) o.needed);
  text = o.text ++ text;
}

-- the Value states that a text makes true
abbrev pub values_in : List State → (text : List ℕ) → List ℕ
values_in states text = values_of (machine_of states) text

-- the set of an element that ends
abbrev pub whole_set : List State → Open → List ℕ
whole_set states child = add child.gathered (values_in states child.text)

abbrev pub after_leaf : List State → Opened → (name : Option (List ℕ)) → (value : List ℕ) → Opened
after_leaf states opened name value = record {
  innermost = with_child states opened.innermost (values_in states value) (label_of states (leaf_kind name)) (leaf_text name value);
  outer = opened.outer;
}

-- an element begins
abbrev pub begun : List State → Opened → (label : ℕ) → Opened
begun states opened label = record {
  innermost = record { label = label; needed = push states opened.innermost.needed label; gathered = []; text = [] };
  outer = opened.innermost ∷ opened.outer;
}

abbrev pub after_start : List State → Opened → (name : List ℕ) → Opened
after_start states opened name = begun states opened (label_of states (ElementKind name))

-- the document root has no end
abbrev pub after_end : List State → (child : Open) → (outer : List Open) → Opened
after_end states child [] = record { innermost = child; outer = [] }
after_end states child (parent ∷ outer) = record {
  innermost = with_child states parent (whole_set states child) child.label child.text;
  outer = outer;
}

abbrev pub after_event : List State → Opened → Event → Opened
after_event states opened (Start name) = after_start states opened name
after_event states opened (Attr name value) = after_leaf states opened (Some name) value
after_event states opened (Text text) = after_leaf states opened None text
after_event states opened End = after_end states opened.innermost opened.outer

abbrev pub end_steps : List State → (child : Open) → (outer : List Open) → List Step
end_steps states child [] = []
end_steps states child (parent ∷ outer) =
    value_steps states child.text
    ++ (step states Add (set_of child.gathered) (set_of (values_in states child.text))
    ∷ raise_steps states parent.needed parent.gathered (whole_set states child) child.label)

-- the steps of an event: 1 at a start, 6 at a leaf, 7 at an end
abbrev pub event_steps : List State → Opened → Event → List Step
event_steps states opened (Start name) = start_steps states opened.innermost.needed name
event_steps states opened (Attr name value) = leaf_steps states opened.innermost.needed opened.innermost.gathered (Some name) value
event_steps states opened (Text text) = leaf_steps states opened.innermost.needed opened.innermost.gathered None text
event_steps states opened End = end_steps states opened.innermost opened.outer

abbrev pub after_events : List State → Opened → List Event → Opened
after_events states opened [] = opened
after_events states opened (event ∷ events) = after_events states (after_event states opened event) events

abbrev pub events_steps : List State → Opened → List Event → List Step
events_steps states opened [] = []
events_steps states opened (event ∷ events) =
    event_steps states opened event ++ events_steps states (after_event states opened event) events

-- at the beginning the document root alone is open, and the first states of all filters are needed of it
abbrev pub ground : Automata → Opened
ground automata = record {
  innermost = record { label = 0; needed = first_set automata.firsts; gathered = []; text = [] };
  outer = [];
}
