-- Over the events of a document the open elements and the steps are those of the recursion on its content.
use Rattle.std.proofs.Common.{◌≡◌, ℕ, List, [], ◌∷◌, ◌++◌, Option, Some, None, map, refl, sym, ◌∙◌, ap, append_assoc, append-nil}
use Rattle.px_text.specs.declared.attribute.Attribute.{Attribute}
use Rattle.px_text.specs.Nodes.{Nodes, NoNodes, TextThen, ElementThen, Root}
use Rattle.px_reader.specs.declared.event.Event.{Event}
use Rattle.px_reader.specs.declared.event.Event.TheVariants.{Start, Attr, Text, End}
use Rattle.px_reader.specs.Spelling.{attribute_event, events, events_of}
use Rattle.px_afa.specs.declared.state.State.{State}
use Rattle.px_afa.specs.Contents.{Content, Empty, Leaf, Element, leaf_text, characters, with_attributes, nodes_content, root_content}
use Rattle.px_afa.specs.Building.{Automata}
use Rattle.px_afa.specs.Machine.{machine_of, gathered_of, after_element}
use Rattle.px_afa.specs.Steps as steps
use Rattle.px_afa.specs.Steps.{Step, leaf_steps, start_steps, run_from, run_of}
use Rattle.px_runner.specs.Events.{Open, Opened, after_leaf, after_start, after_event, event_steps, after_events, events_steps, ground}

-- the events of some content, in order
abbrev content_events : Content → List Event
content_events Empty = []
content_events (Leaf None value rest) = Text value ∷ content_events rest
content_events (Leaf (Some name) value rest) = Attr name value ∷ content_events rest
content_events (Element name inside rest) = Start name ∷ (content_events inside ++ (End ∷ content_events rest))

attributes-events : (attributes : List Attribute) (c : Content) →
    content_events (with_attributes attributes c) ≡ map attribute_event attributes ++ content_events c
attributes-events [] c = refl
attributes-events (a ∷ attributes) c = ap (λ es. attribute_event a ∷ es) (attributes-events attributes c)

nodes-events : (nodes : Nodes) → content_events (nodes_content nodes) ≡ events nodes
nodes-events NoNodes = refl
nodes-events (TextThen text behind) = ap (λ es. Text text ∷ es) (nodes-events behind)
nodes-events (ElementThen name attributes children behind) =
    ap (λ es. Start name ∷ (es ++ (End ∷ content_events (nodes_content behind)))) (attributes-events attributes (nodes_content children))
    ∙ (ap (λ es. Start name ∷ es) (append_assoc (map attribute_event attributes) (content_events (nodes_content children)) (End ∷ content_events (nodes_content behind)))
    ∙ (ap (λ es. Start name ∷ (map attribute_event attributes ++ (es ++ (End ∷ content_events (nodes_content behind))))) (nodes-events children)
    ∙ ap (λ es. Start name ∷ (map attribute_event attributes ++ (events children ++ (End ∷ es)))) (nodes-events behind)))

root-events : (root : Root) → content_events (root_content root) ≡ events_of root
root-events root = nodes-events (ElementThen root.name root.attributes root.children NoNodes)

pub after-append : (states : List State) (opened : Opened) (es ds : List Event) →
    after_events states opened (es ++ ds) ≡ after_events states (after_events states opened es) ds
after-append states opened [] ds = refl
after-append states opened (e ∷ es) ds = after-append states (after_event states opened e) es ds

pub steps-append : (states : List State) (opened : Opened) (es ds : List Event) →
    events_steps states opened (es ++ ds) ≡ events_steps states opened es ++ events_steps states (after_events states opened es) ds
steps-append states opened [] ds = refl
steps-append states opened (e ∷ es) ds =
    ap (λ r. event_steps states opened e ++ r) (steps-append states (after_event states opened e) es ds)
    ∙ sym (append_assoc (event_steps states opened e) (events_steps states (after_event states opened e) es) (events_steps states (after_events states (after_event states opened e) es) ds))

-- an open element after some content
abbrev pub filled : List State → Open → Content → Open
filled states o c = record { label = o.label; needed = o.needed; gathered = gathered_of (machine_of states) o.needed o.gathered c; text = o.text ++ characters c }

abbrev inner : Open → List Open → Opened
inner o outer = record { innermost = o; outer = outer }

with_text : (o : Open) (gathered : List ℕ) (outer : List Open) {a b : List ℕ} → a ≡ b →
    inner (record { label = o.label; needed = o.needed; gathered = gathered; text = a }) outer ≡ inner (record { label = o.label; needed = o.needed; gathered = gathered; text = b }) outer
with_text o gathered outer e = ap (λ t. inner (record { label = o.label; needed = o.needed; gathered = gathered; text = t }) outer) e

-- a child element that has just begun
abbrev begun : List State → Open → List ℕ → Open
begun states o name = (after_start states (inner o []) name).innermost

pub frames-after : (states : List State) (c : Content) (o : Open) (outer : List Open) →
    after_events states (inner o outer) (content_events c) ≡ inner (filled states o c) outer
frames-after states Empty o outer = with_text o o.gathered outer (sym (append-nil o.text))
frames-after states (Leaf None value rest) o outer =
    frames-after states rest (after_leaf states (inner o outer) None value).innermost outer
    ∙ with_text o (gathered_of (machine_of states) o.needed o.gathered (Leaf None value rest)) outer (append_assoc o.text (leaf_text None value) (characters rest))
frames-after states (Leaf (Some name) value rest) o outer =
    frames-after states rest (after_leaf states (inner o outer) (Some name) value).innermost outer
    ∙ with_text o (gathered_of (machine_of states) o.needed o.gathered (Leaf (Some name) value rest)) outer (append_assoc o.text (leaf_text (Some name) value) (characters rest))
frames-after states (Element name inside rest) o outer =
    after-append states (inner (begun states o name) (o ∷ outer)) (content_events inside) (End ∷ content_events rest)
    ∙ (ap (λ opened. after_events states opened (End ∷ content_events rest)) (frames-after states inside (begun states o name) (o ∷ outer))
    ∙ (frames-after states rest (after_event states (inner (filled states (begun states o name) inside) (o ∷ outer)) End).innermost outer
    ∙ with_text o (gathered_of (machine_of states) o.needed o.gathered (Element name inside rest)) outer (append_assoc o.text (characters inside) (characters rest))))

regroup : (a b e r : List Step) → a ++ (b ++ (e ++ r)) ≡ (a ++ (b ++ e)) ++ r
regroup a b e r = simp append_assoc

pub steps-after : (states : List State) (c : Content) (o : Open) (outer : List Open) →
    events_steps states (inner o outer) (content_events c) ≡ run_from states o.needed o.gathered c
steps-after states Empty o outer = refl
steps-after states (Leaf None value rest) o outer =
    ap (λ r. leaf_steps states o.needed o.gathered None value ++ r) (steps-after states rest (after_leaf states (inner o outer) None value).innermost outer)
steps-after states (Leaf (Some name) value rest) o outer =
    ap (λ r. leaf_steps states o.needed o.gathered (Some name) value ++ r) (steps-after states rest (after_leaf states (inner o outer) (Some name) value).innermost outer)
steps-after states (Element name inside rest) o outer =
    let child = begun states o name in
    let gathered = gathered_of (machine_of states) child.needed [] inside in
    let ends = steps.end_steps states o.needed o.gathered name (characters inside) gathered in
    ap (λ r. start_steps states o.needed name ++ r) (steps-append states (inner child (o ∷ outer)) (content_events inside) (End ∷ content_events rest)
    ∙ (ap (λ r. r ++ events_steps states (after_events states (inner child (o ∷ outer)) (content_events inside)) (End ∷ content_events rest)) (steps-after states inside child (o ∷ outer))
    ∙ ap (λ r. run_from states child.needed [] inside ++ r) (ap (λ opened. events_steps states opened (End ∷ content_events rest)) (frames-after states inside child (o ∷ outer))
    ∙ ap (λ r. ends ++ r) (steps-after states rest (after_event states (inner (filled states child inside) (o ∷ outer)) End).innermost outer))))
    ∙ regroup (start_steps states o.needed name) (run_from states child.needed [] inside) ends (run_from states o.needed (after_element (machine_of states) o.needed o.gathered name (characters inside) gathered) rest)

-- what the document root has gathered in the end
pub tree-opened : (automata : Automata) (root : Root) →
    after_events automata.states (ground automata) (events_of root) ≡ inner (filled automata.states (ground automata).innermost (root_content root)) []
tree-opened automata root =
    ap (after_events automata.states (ground automata)) (sym (root-events root)) ∙ frames-after automata.states (root_content root) (ground automata).innermost []

pub tree-steps : (automata : Automata) (root : Root) →
    events_steps automata.states (ground automata) (events_of root) ≡ run_of automata root
tree-steps automata root =
    ap (events_steps automata.states (ground automata)) (sym (root-events root)) ∙ steps-after automata.states (root_content root) (ground automata).innermost []
