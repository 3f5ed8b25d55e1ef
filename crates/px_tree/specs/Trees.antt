-- The tree that a value of the program is.
use Rattle.std.specs.Prelude.{List, [], ◌∷◌}
use Rattle.px_tree.specs.declared.tree.Node.{Node, Elem', Text, Row_of-Node, end_of-Node, more_of-Node}
use Rattle.px_tree.specs.declared.tree.Tree.{Tree}
use Rattle.px_text.specs.Nodes.{Nodes, NoNodes, TextThen, ElementThen, Root}

abbrev mutual
  -- a node, and what is behind it
  pub then : Node → Nodes → Nodes
  then (Elem' name attributes _ children) behind = ElementThen name attributes (nodes_of_row children) behind
  then (Text text) behind = TextThen text behind

  pub nodes_of_row : {n : _} → Row_of-Node n → Nodes
  nodes_of_row end_of-Node = NoNodes
  nodes_of_row (more_of-Node child rest) = then child (nodes_of_row rest)

-- the nodes of a list, in order
abbrev pub nodes : List Node → Nodes
nodes [] = NoNodes
nodes (child ∷ rest) = then child (nodes rest)

abbrev pub tree : Tree → Root
tree t = record { name = t.root.name; attributes = t.root.attributes; children = nodes t.root.children }
