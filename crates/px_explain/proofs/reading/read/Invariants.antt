use Rattle.std.proofs.Common.{◌≡◌, ◌≤◌, ◌++◌, length}
use Rattle.px_explain.specs.Bounds.{AreSmall}
use Rattle.px_explain.specs.Texts.{text_of}
use Rattle.px_explain.proofs.reading.read.Given as goal

abbrev pub invariant-loop-rest : goal.invariant-loop-rest
invariant-loop-rest l = (l.text ≡ text_of l.nodes.items ++ l.rest) × (length l.nodes.items ≤ 100_000) × AreSmall l.nodes.items

abbrev pub decreases-loop-rest : goal.decreases-loop-rest
decreases-loop-rest l = length l.rest
