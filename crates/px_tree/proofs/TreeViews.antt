-- What the view of a tree is at each node.
use Rattle.std.proofs.Common.{◌≡◌, List, refl, ap, ◌∙◌}
use Rattle.px_tree.specs.declared.tree.Node.{Node, Elem, Row_of-Node, end_of-Node, more_of-Node, items-the_row-Node, items_hidden-the_row-Node-0}
use Rattle.px_tree.specs.declared.tree.Element.{Element}
use Rattle.px_tree.specs.declared.tree.Node.TheBlock.{hidden-the_row-Node-0}
use Rattle.px_text.specs.Nodes.{Nodes, ElementThen}
use Rattle.px_tree.specs.Trees.{then, nodes, nodes_of_row}

row_is_list : {n : _} → (k : Row_of-Node n) → nodes_of_row k ≡ nodes (items-the_row-Node _ k)
row_is_list end_of-Node = refl
row_is_list (more_of-Node child rest) = ap (then child) (row_is_list rest)

pub hidden_nodes : (children : List Node) → nodes_of_row (hidden-the_row-Node-0 children) ≡ nodes children
hidden_nodes children = row_is_list (hidden-the_row-Node-0 children) ∙ ap nodes (items_hidden-the_row-Node-0 children)

-- an element, and what is behind it
pub then-Elem : (e : Element) (behind : Nodes) → then (Elem e) behind ≡ ElementThen e.name e.attributes (nodes e.children) behind
then-Elem e behind = ap (λ children. ElementThen e.name e.attributes children behind) (hidden_nodes e.children)

pub ruleset views = (then-Elem)
