-- The machine has taken the events so far.
use Rattle.std.proofs.Common.{◌++◌, List, take}
use Rattle.px_reader.specs.declared.event.Event.{Event}
use Rattle.px_afa.specs.Building.{Automata}
use Rattle.px_machine.specs.Machines.{HasRun}
use Rattle.px_delta.proofs.private.take_all.Given as goal

abbrev pub invariant-loop-place : goal.invariant-loop-place
invariant-loop-place l = record {
  run : (program : Automata) (given : List Event) → HasRun l.initial.machine program given → HasRun l.machine program (given ++ take l.place l.events);
}
