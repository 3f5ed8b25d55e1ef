-- A document as states see it: an element's attributes and children in one list, the attributes first.
use Rattle.std.specs.Prelude.{ℕ, List, [], ◌∷◌, ◌++◌, Option, Some, None}
use Rattle.px_text.specs.declared.attribute.Attribute.{Attribute}
use Rattle.px_text.specs.Nodes.{Nodes, NoNodes, TextThen, ElementThen, Root, Place, AtDocument, AtElement, AtAttribute, AtText}

-- how a test sees a child
pub data Kind : Type 0 where
  ElementKind : (name : List ℕ) → Kind
  AttributeKind : (name : List ℕ) → Kind
  TextKind : Kind

-- Children in order. A leaf with a name is an attribute, and one without is a text.
pub data Content : Type 0 where
  Empty : Content
  Leaf : (name : Option (List ℕ)) → (value : List ℕ) → (rest : Content) → Content
  Element : (name : List ℕ) → (inside rest : Content) → Content

abbrev pub leaf_kind : Option (List ℕ) → Kind
leaf_kind None = TextKind
leaf_kind (Some name) = AttributeKind name

-- the characters of a text, and nothing of an attribute
abbrev pub leaf_text : Option (List ℕ) → List ℕ → List ℕ
leaf_text None value = value
leaf_text (Some name) value = []

-- the characters of all texts, in order
abbrev pub characters : Content → List ℕ
characters Empty = []
characters (Leaf name value rest) = leaf_text name value ++ characters rest
characters (Element name inside rest) = characters inside ++ characters rest

abbrev pub with_attributes : List Attribute → Content → Content
with_attributes [] content = content
with_attributes (a ∷ attributes) content = Leaf (Some a.name) a.value (with_attributes attributes content)

abbrev pub nodes_content : Nodes → Content
nodes_content NoNodes = Empty
nodes_content (TextThen text behind) = Leaf None text (nodes_content behind)
nodes_content (ElementThen name attributes children behind) =
    Element name (with_attributes attributes (nodes_content children)) (nodes_content behind)

-- the document root has one child, the root element
abbrev pub root_content : Root → Content
root_content root = Element root.name (with_attributes root.attributes (nodes_content root.children)) Empty

abbrev pub content_of : Place → Content
content_of (AtDocument root) = root_content root
content_of (AtElement name attributes children) = with_attributes attributes (nodes_content children)
content_of (AtAttribute attribute) = Empty
content_of (AtText text) = Empty
