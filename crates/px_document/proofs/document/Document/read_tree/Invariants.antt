-- So many pieces at least have come.
use Rattle.std.proofs.Common.{◌<◌, ◌≤◌, ℕ, List, Option, length}
use Rattle.px_document.specs.Documents.{Comes}
use Rattle.px_document.proofs.document.Document.read_tree.Given as goal

abbrev pub invariant-loop : goal.invariant-loop
invariant-loop g l = record {
  comes : (left : Option (List ℕ)) → Comes 0 left (g.S.Source.left l.initial.source) l.initial.self → Comes l.counter left (g.S.Source.left l.source) l.self;
  never_falls : g.S.Source.faults l.initial.source ≤ g.S.Source.faults l.source;
  room : 0 < length l.buffer;
}
