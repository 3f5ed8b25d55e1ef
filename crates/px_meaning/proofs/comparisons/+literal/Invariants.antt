use Rattle.std.proofs.Common.{◌≡◌, ◌++◌, take}
use Rattle.px_text.specs.Nodes.{characters}
use Rattle.px_tree.specs.Trees.{nodes}
use Rattle.px_meaning.proofs.comparisons.+literal.Given as goal

abbrev pub invariant-behind_texts-loop-child : goal.invariant-behind_texts-loop-child
invariant-behind_texts-loop-child l = l.literal ≡ characters (nodes (take l.child-index l.children)) ++ l.rest
