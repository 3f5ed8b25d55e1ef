-- The tree that lines spell.
use Rattle.std.specs.Prelude.{◌≡◌, ℕ, ◌<◌, Bool, true, false, ◌&&◌, not, List, [], ◌∷◌, ◌++◌, map, length, IsTrue, IsFalse, bytes_eq}
use Rattle.std.specs.List.{list_all, list_any, concat}
use Rattle.px_text.specs.declared.attribute.Attribute.{Attribute}
use Rattle.px_text.specs.Nodes.{Nodes, NoNodes, TextThen, ElementThen, Root}
use Rattle.px_reader.specs.declared.event.Event.{Event}
use Rattle.px_reader.specs.declared.event.Event.TheVariants.{Start, Attr, Text, End}
use Rattle.px_reader.specs.Lines.{Line, Opens, Closes, Gives, Says, Passed, is_outside, solid, line_of, without_end}

-- the lines of an element's attributes
abbrev pub gives : List Attribute → List Line
gives = map (λ a. Gives a.name a.value)

abbrev pub is_among : List ℕ → List (List ℕ) → Bool
is_among name = list_any (bytes_eq name)

-- no name is among the earlier ones, nor among these
abbrev pub are_new : (names : List (List ℕ)) → List Attribute → Bool
are_new names [] = true
are_new names (a ∷ attributes) = not (is_among a.name names) && are_new (a.name ∷ names) attributes

abbrev pub names_differ : List Attribute → Bool
names_differ = are_new []

abbrev pub begins_with_text : List Line → Bool
begins_with_text (Says text ∷ lines) = true
begins_with_text _ = false

-- a text that is not empty is a node
abbrev pub text_then : List ℕ → Nodes → Nodes
text_then [] behind = behind
text_then (b ∷ text) behind = TextThen (b ∷ text) behind

-- The lines begin with the spelling of the nodes, and the rest stands behind it.
pub data Body : List Line → Nodes → List Line → Type 0 where
  nothing : {rest : List Line} → Body rest NoNodes rest
  passes : {lines rest : List Line} {nodes : Nodes} → Body lines nodes rest → Body (Passed ∷ lines) nodes rest
  -- a run of texts, which no further text follows
  says : {lines rest : List Line} {nodes : Nodes} (texts : List (List ℕ)) → 0 < length texts → IsFalse (begins_with_text lines) →
      Body lines nodes rest → Body (map Says texts ++ lines) (text_then (concat texts) nodes) rest
  -- an element, from its first line to its last
  element : {body lines rest : List Line} {children nodes : Nodes} (name : List ℕ) (attributes : List Attribute) →
      IsTrue (names_differ attributes) → Body body children (Closes name ∷ lines) → Body lines nodes rest →
      Body (Opens name ∷ gives attributes ++ body) (ElementThen name attributes children nodes) rest

-- The lines are a document: the root element, with lines outside it before and after.
pub record IsDocument (lines : List Line) (root : Root) : Type 0 where
  pub before : List Line
  pub body : List Line
  pub after : List Line
  pub whole : lines ≡ before ++ (Opens root.name ∷ gives root.attributes ++ body)
  pub differ : IsTrue (names_differ root.attributes)
  pub children : Body body root.children (Closes root.name ∷ after)
  pub outside : IsTrue (list_all is_outside before && list_all is_outside after)

-- what the lines are, the empty ones taken out
abbrev pub kinds : List (List ℕ) → List Line
kinds lines = solid (map (λ line. line_of (without_end line)) lines)

-- the lines spell the tree
abbrev pub Spells : List (List ℕ) → Root → Type 0
Spells lines root = IsDocument (kinds lines) root

abbrev pub attribute_event : Attribute → Event
attribute_event a = Attr a.name a.value

-- the events of nodes, in order
abbrev pub events : Nodes → List Event
events NoNodes = []
events (TextThen text behind) = Text text ∷ events behind
events (ElementThen name attributes children behind) =
    Start name ∷ (map attribute_event attributes ++ (events children ++ End ∷ events behind))

-- the events of a document
abbrev pub events_of : Root → List Event
events_of root = events (ElementThen root.name root.attributes root.children NoNodes)
