-- So many pieces at least were taken.
use Rattle.std.proofs.Common.{◌<◌, ◌≤◌, length}
use Rattle.px_document.specs.Proofs.{Takes}
use Rattle.px_document.proofs.opening.read_opening.Given as goal

abbrev pub invariant-loop : goal.invariant-loop
invariant-loop g l = record {
  takes : Takes l.counter (g.S.Source.left l.initial.source) (g.S.Source.left l.source) l.proof;
  never_falls : g.S.Source.faults l.initial.source ≤ g.S.Source.faults l.source;
  room : 0 < length l.buffer;
}
