use Rattle.std.proofs.Common.{take}
use Rattle.px_afa.specs.Building.{newest}
use Rattle.px_afa.specs.Classes.{literals_of}
use Rattle.px_afa.specs.Kept.{AreLiterals}
use Rattle.px_afa.proofs.literals.Literals.of.Given as goal

abbrev pub invariant-loop-state : goal.invariant-loop-state
invariant-loop-state l = AreLiterals l.literals (literals_of (newest (take l.state-index l.states)))
