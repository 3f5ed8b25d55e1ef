use Rattle.std.proofs.Common.{◌++◌, List, ℕ, take}
use Rattle.px_text.specs.Nodes.{characters}
use Rattle.px_tree.specs.Trees.{nodes}
use Rattle.px_text.specs.Scans.{HasTaken}
use Rattle.px_meaning.proofs.comparisons.+scan.Given as goal

abbrev pub invariant-take_texts-loop-child : goal.invariant-take_texts-loop-child
invariant-take_texts-loop-child l = (text : List ℕ) → HasTaken l.initial.scan text → HasTaken l.scan (text ++ characters (nodes (take l.child-index l.children)))
