-- The machine stands before a document.
use Rattle.std.proofs.Common.{[]}
use Rattle.px_afa.specs.Building.{Automata}
use Rattle.px_machine.specs.Machines.{HasRun}
use Rattle.px_trial.proofs.quiet.ids_by_machine_often.Given as goal

abbrev pub invariant-loop : goal.invariant-loop
invariant-loop l = (program : Automata) × HasRun l.machine program []
