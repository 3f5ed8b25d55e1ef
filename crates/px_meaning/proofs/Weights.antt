-- How much is left to do: the parts of a filter and of a place.
use Rattle.std.proofs.Common.{◌≡◌, ◌<◌, ℕ, zero, suc, ◌≤◌, ◌+◌, get_or, List, [], ◌∷◌, ◌++◌, length, refl, ap, arith, append_assoc, map}
use Rattle.std.proofs.lemmas.List.Folds.{list_any-append}
use Rattle.px_tree.specs.Trees.{nodes, then}
use Rattle.px_tree.specs.declared.tree.Node.{Elem, Elem', Text}
use Rattle.px_tree.specs.declared.tree.Element.{Element}
use Rattle.px_tree.proofs.TreeViews.{hidden_nodes}
use Rattle.px_text.specs.Nodes.{members, all_below}
use Rattle.px_meaning.specs.Places.{place_of_node, node_and_below, element_place, element_and_below}
use Rattle.px_tree.specs.declared.tree.Node.{Node}
use Rattle.px_text.specs.Nodes.{Nodes, NoNodes, TextThen, ElementThen, Place, AtDocument, AtElement, AtAttribute, AtText}
use Rattle.px_xpath.specs.declared.filter.Cond.{Cond}
use Rattle.px_xpath.specs.declared.filter.Step.{Step}
use Rattle.px_xpath.specs.Views.{condition, conditions, ways}
use Rattle.px_xpath.specs.Filters.{Way, Arrived, StepThen, Condition, Selects, Compares, EachOf, SomeOf, Fails, Conditions, NoConditions, CondThen}

-- paths and conditions, by their parts
abbrev mutual
  pub way_weight : Way → ℕ
  way_weight Arrived = 0
  way_weight (StepThen axis _ conds onward) = conditions_weight conds + way_weight onward + 2

  pub condition_weight : Condition → ℕ
  condition_weight (Selects way) = way_weight way + 1
  condition_weight (Compares way r value) = way_weight way + 1
  condition_weight (EachOf conds) = conditions_weight conds + 1
  condition_weight (SomeOf conds) = conditions_weight conds + 1
  condition_weight (Fails condition) = condition_weight condition + 1

  pub conditions_weight : Conditions → ℕ
  conditions_weight NoConditions = 0
  conditions_weight (CondThen condition rest) = condition_weight condition + conditions_weight rest + 1

-- a step, and the steps behind it
abbrev pub leg_weight : Step → List Step → ℕ
leg_weight step rest = conditions_weight (conditions step.conds) + way_weight (ways rest) + 1

-- nodes with all that is below them
abbrev pub nodes_weight : Nodes → ℕ
nodes_weight NoNodes = 0
nodes_weight (TextThen text behind) = nodes_weight behind + 4
nodes_weight (ElementThen name attributes children behind) =
    length attributes + length attributes + nodes_weight children + nodes_weight behind + 4

-- a place with all that is below it
abbrev pub place_weight : Place → ℕ
place_weight (AtDocument root) = length root.attributes + length root.attributes + nodes_weight root.children + 3
place_weight (AtElement name attributes children) = length attributes + length attributes + nodes_weight children + 1
place_weight (AtAttribute attribute) = 1
place_weight (AtText text) = 1

-- the places of a node and of what is behind it
pub members-then : (node : Node) (behind : Nodes) → members (then node behind) ≡ place_of_node node ∷ members behind
members-then (Elem' name attributes _ children) behind = refl
members-then (Text text) behind = refl

pub all_below-then : (node : Node) (behind : Nodes) → all_below (then node behind) ≡ node_and_below node ++ all_below behind
all_below-then (Elem' name attributes _ children) behind = simp append_assoc
all_below-then (Text text) behind = refl

-- an element as a node
pub node_and_below-Elem : (e : Element) → node_and_below (Elem e) ≡ element_and_below e
node_and_below-Elem e = ap (λ kids. AtElement e.name e.attributes kids ∷ map AtAttribute e.attributes ++ all_below kids) (hidden_nodes e.children)

pub nodes_weight-then : (node : Node) (behind : Nodes) → nodes_weight (then node behind) ≡ place_weight (place_of_node node) + 3 + nodes_weight behind
nodes_weight-then (Elem' name attributes _ children) behind = omega arith
nodes_weight-then (Text text) behind = omega arith

pub place_of_node-Elem : (e : Element) → place_of_node (Elem e) ≡ element_place e
place_of_node-Elem e = ap (AtElement e.name e.attributes) (hidden_nodes e.children)

-- a node weighs less than the nodes among which it is
pub node_weight_at : (xs : List Node) (i : ℕ) (n : Node) → i < length xs → n ≡ get_or xs i n → place_weight (place_of_node n) + 3 ≤ nodes_weight (nodes xs)
node_weight_at [] i n h e = absurd (omega arith)
node_weight_at (x ∷ xs) zero n h e = rw (nodes_weight-then x (nodes xs)) (rw e (omega arith))
node_weight_at (x ∷ xs) (suc i) n h e =
    let w = node_weight_at xs i n (omega arith) e in rw (nodes_weight-then x (nodes xs)) (omega arith)

-- a condition weighs less than the conditions among which it is
pub condition_weight_at : (cs : List Cond) (i : ℕ) (c : Cond) → i < length cs → c ≡ get_or cs i c → condition_weight (condition c) + 1 ≤ conditions_weight (conditions cs)
condition_weight_at [] i c h e = absurd (omega arith)
condition_weight_at (d ∷ cs) zero c h e = rw e (omega arith)
condition_weight_at (d ∷ cs) (suc i) c h e = let w = condition_weight_at cs i c (omega arith) e in omega arith

-- what the proofs of the evaluator use
pub ruleset steps = (members-then, all_below-then, nodes_weight-then, place_of_node-Elem, node_and_below-Elem, list_any-append, node_weight_at, condition_weight_at)
