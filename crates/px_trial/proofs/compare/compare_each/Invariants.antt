-- The machine is before a document.
use Rattle.std.proofs.Common.{[]}
use Rattle.px_afa.specs.Building.{Automata}
use Rattle.px_machine.specs.Machines.{HasRun}
use Rattle.px_trial.proofs.compare.compare_each.Given as goal

abbrev pub invariant-loop-doc : goal.invariant-loop-doc
invariant-loop-doc l = (program : Automata) × HasRun l.machine program []
