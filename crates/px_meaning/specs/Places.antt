-- The place that a value of the program is.
use Rattle.std.specs.Prelude.{List, [], ◌∷◌, ◌++◌, map}
use Rattle.px_text.specs.Nodes.{AtDocument, AtElement, AtAttribute, AtText, all_below}
use Rattle.px_text.specs.Nodes as document
use Rattle.px_tree.specs.declared.tree.Element.{Element}
use Rattle.px_tree.specs.declared.tree.Node.{Node, Elem', Text}
use Rattle.px_tree.specs.Trees.{nodes, nodes_of_row, tree}
use Rattle.px_meaning.specs.declared.place.Place.{Place}
use Rattle.px_meaning.specs.declared.place.Place.TheVariants as at

-- the place of an element
abbrev pub element_place : Element → document.Place
element_place e = AtElement e.name e.attributes (nodes e.children)

abbrev pub place : Place → document.Place
place (at.Document t) = AtDocument (tree t.now)
place (at.Element e) = element_place e.now
place (at.Attribute a) = AtAttribute a.now
place (at.Text t) = AtText t.now

-- the place of a node
abbrev pub place_of_node : Node → document.Place
place_of_node (Elem' name attributes _ children) = AtElement name attributes (nodes_of_row children)
place_of_node (Text text) = AtText text

-- the place of a node, and all places below it
abbrev pub node_and_below : Node → List document.Place
node_and_below (Elem' name attributes _ children) =
    AtElement name attributes (nodes_of_row children) ∷ map AtAttribute attributes ++ all_below (nodes_of_row children)
node_and_below (Text text) = AtText text ∷ []

-- the place of an element, and all places below it
abbrev pub element_and_below : Element → List document.Place
element_and_below e = element_place e ∷ map AtAttribute e.attributes ++ all_below (nodes e.children)
