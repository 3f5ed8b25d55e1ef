use Rattle.std.proofs.Common.{take}
use Rattle.px_afa.specs.Building.{newest}
use Rattle.px_afa.specs.Kept.{AreNames}
use Rattle.px_afa.specs.Labels.{names_of}
use Rattle.px_afa.proofs.names.Names.of.Given as goal

abbrev pub invariant-loop-state : goal.invariant-loop-state
invariant-loop-state l = AreNames l.names (names_of (newest (take l.state-index l.states)))
