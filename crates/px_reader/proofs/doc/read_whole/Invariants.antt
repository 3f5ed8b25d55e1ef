-- The pieces so far are read, and their events are in the list.
use Rattle.std.proofs.Common.{◌≡◌, [], length}
use Rattle.px_reader.proofs.Telling.{HasTold}
use Rattle.px_reader.proofs.doc.read_whole.Given as goal

abbrev pub invariant-loop-rest : goal.invariant-loop-rest
invariant-loop-rest l = record { told : HasTold l.reader l.bytes l.rest l.events; none : l.next.items ≡ [] }

abbrev pub decreases-loop-rest : goal.decreases-loop-rest
decreases-loop-rest l = length l.rest
