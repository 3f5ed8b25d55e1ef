-- So many pieces at least were read, and the machine has taken all events that came.
use Rattle.std.proofs.Common.{◌<◌, ◌≤◌, List, length}
use Rattle.std.specs.Arc.{arc_value}
use Rattle.px_reader.specs.declared.event.Event.{Event}
use Rattle.px_machine.specs.Machines.{HasRun}
use Rattle.xpush.specs.Documents.{Reads}
use Rattle.xpush.proofs.document.ids_in.Given as goal

abbrev pub invariant-loop : goal.invariant-loop
invariant-loop g l = record {
  run : (given : List Event) × Reads l.counter (g.S.Source.left l.initial.source) (g.S.Source.left l.source) l.reader given × HasRun l.machine (arc_value l.fn.program) given;
  never_falls : g.S.Source.faults l.initial.source ≤ g.S.Source.faults l.source;
  room : 0 < length l.buffer;
}
