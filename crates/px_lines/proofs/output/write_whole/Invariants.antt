-- The front up to here is written.
use Rattle.std.proofs.Common.{length, take, ◌-◌, ◌≤◌}
use Rattle.px_io.specs.Flows.{AddsTo}
use Rattle.px_lines.proofs.output.write_whole.Given as goal

abbrev pub invariant-loop-at : goal.invariant-loop-at
invariant-loop-at g l = record {
  within : l.at ≤ length l.piece;
  written : AddsTo (g.K.Sink.held l.initial.sink) (take l.at l.piece) (g.K.Sink.held l.sink);
  never_falls : g.K.Sink.faults l.initial.sink ≤ g.K.Sink.faults l.sink;
}

abbrev pub decreases-loop-at : goal.decreases-loop-at
decreases-loop-at g l = length l.piece - l.at
