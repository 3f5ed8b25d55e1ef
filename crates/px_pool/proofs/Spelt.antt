-- A document that was read has no fault.
use Rattle.std.proofs.Common.{◌≡◌, ℕ, List}
use Rattle.px_reader.specs.declared.fault.DocFault.{DocFault}
use Rattle.px_reader.specs.Lines.{lines_of}
use Rattle.px_reader.specs.Verdicts.{IsTree, IsFaulty, SpellsTree}
use Rattle.px_reader.proofs.Telling.{spelt_tree}
use Rattle.px_reader.proofs.Verdicts.{judges_one}
use Rattle.px_rule.specs.declared.shape.Shape.{Shape}
use Rattle.px_hub.specs.Passes.{PassView}
use Rattle.px_hub.specs.Replying.{Refuses}

pub no_fault : (z : Shape) (v w : PassView) (bytes : List ℕ) (fault : DocFault) → SpellsTree bytes → Refuses z v w bytes fault → ⊥
no_fault z v w bytes fault spelt refuses =
    let tree = spelt_tree bytes spelt in
    let same : IsTree tree.0 ≡ IsFaulty fault.line fault.kind = judges_one (lines_of bytes) (IsTree tree.0) (IsFaulty fault.line fault.kind) tree.1 refuses.verdict in absurd (cc)
