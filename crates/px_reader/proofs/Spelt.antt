-- What lines spell is a tree, and what is none.
use Rattle.std.proofs.Common.{ℕ, List, [], ◌∷◌, arith}
use Rattle.std.specs.List.{concat}
use Rattle.px_text.specs.Nodes.{Nodes, Root}
use Rattle.px_reader.specs.Lines.{Line}
use Rattle.px_reader.specs.Spelling.{Body, nothing, passes, says, element, text_then, IsDocument, Spells, kinds}
use Rattle.px_reader.specs.Trees.{AreNodes, IsTree}

text_nodes : (text : List ℕ) (nodes : Nodes) → AreNodes nodes → AreNodes (text_then text nodes)
text_nodes [] nodes n = n
text_nodes (b ∷ text) nodes n = (omega arith, n)

body_nodes : {lines rest : List Line} {nodes : Nodes} → Body lines nodes rest → AreNodes nodes
body_nodes nothing = tt
body_nodes (passes b) = body_nodes b
body_nodes (says {nodes = nodes} texts some n b) = text_nodes (concat texts) nodes (body_nodes b)
body_nodes (element name attributes differ b behind) = (differ, body_nodes b, body_nodes behind)

pub document_tree : (lines : List Line) (root : Root) → IsDocument lines root → IsTree root
document_tree lines root d = (d.differ, body_nodes d.children)

pub spelt_tree : (lines : List (List ℕ)) (root : Root) → Spells lines root → IsTree root
spelt_tree lines root d = document_tree (kinds lines) root d
