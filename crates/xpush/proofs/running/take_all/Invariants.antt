-- The machine has taken the events so far.
use Rattle.std.proofs.Common.{◌≡◌, ◌++◌, List, take}
use Rattle.px_reader.specs.declared.event.Event.{Event}
use Rattle.px_afa.specs.Building.{Automata}
use Rattle.px_machine.specs.Machines.{HasRun, program_of}
use Rattle.xpush.proofs.running.take_all.Given as goal

abbrev pub invariant-loop-next : goal.invariant-loop-next
invariant-loop-next l = record {
  same : program_of l.machine ≡ program_of l.initial.machine;
  run : (program : Automata) (given : List Event) → HasRun l.initial.machine program given → HasRun l.machine program (given ++ take l.next-index l.events);
}
