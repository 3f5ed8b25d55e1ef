-- Trees without where they lie in memory.
use Rattle.std.specs.Prelude.{ℕ, List, [], ◌∷◌, ◌++◌, map}
use Rattle.px_text.specs.declared.attribute.Attribute.{Attribute}

-- What stands inside an element, in order: nothing more, or a text or an element, and then what is behind it.
pub data Nodes : Type 0 where
  NoNodes : Nodes
  TextThen : (text : List ℕ) → (behind : Nodes) → Nodes
  ElementThen : (name : List ℕ) → (attributes : List Attribute) → (children behind : Nodes) → Nodes

-- a document by its root element
pub record Root : Type 0 where
  pub name : List ℕ
  pub attributes : List Attribute
  pub children : Nodes

-- one place of a document, with all that is below it
pub data Place : Type 0 where
  AtDocument : Root → Place
  AtElement : (name : List ℕ) → (attributes : List Attribute) → (children : Nodes) → Place
  AtAttribute : Attribute → Place
  AtText : List ℕ → Place

-- the nodes themselves
abbrev pub members : Nodes → List Place
members NoNodes = []
members (TextThen text behind) = AtText text ∷ members behind
members (ElementThen name attributes children behind) = AtElement name attributes children ∷ members behind

-- the nodes, and all attributes and nodes below them
abbrev pub all_below : Nodes → List Place
all_below NoNodes = []
all_below (TextThen text behind) = AtText text ∷ all_below behind
all_below (ElementThen name attributes children behind) =
    AtElement name attributes children ∷ map AtAttribute attributes ++ all_below children ++ all_below behind

-- the characters of all texts, in order
abbrev pub characters : Nodes → List ℕ
characters NoNodes = []
characters (TextThen text behind) = text ++ characters behind
characters (ElementThen name attributes children behind) = characters children ++ characters behind

abbrev pub string_value : Place → List ℕ
string_value (AtDocument root) = characters root.children
string_value (AtElement name attributes children) = characters children
string_value (AtAttribute attribute) = attribute.value
string_value (AtText text) = text
