-- The machine has taken the events so far.
use Rattle.std.proofs.Common.{◌≡◌, [], take}
use Rattle.px_afa.specs.Building.{Automata}
use Rattle.px_machine.specs.Machines.{HasRun, program_of}
use Rattle.px_trial.proofs.document.take_all.Given as goal

abbrev pub invariant-loop-event : goal.invariant-loop-event
invariant-loop-event l = record {
  same : program_of l.machine ≡ program_of l.initial.machine;
  run : (program : Automata) → HasRun l.initial.machine program [] → HasRun l.machine program (take l.event-index l.events);
}
