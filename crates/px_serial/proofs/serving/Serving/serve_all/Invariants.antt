-- So many items at least were answered, and the next one is in hand.
use Rattle.std.proofs.Common.{◌≤◌}
use Rattle.px_lines.specs.Standing.{Streams, streams}
use Rattle.px_serial.specs.Standing.{Holds, KeepsUp}
use Rattle.px_serial.proofs.serving.Serving.serve_all.Given as goal

abbrev pub invariant-loop : goal.invariant-loop
invariant-loop g l = record {
  holds : (first : Streams) →
      Holds l.initial.item l.initial.self first
      (streams (g.S.Source.left l.initial.source) (g.K.Sink.held l.initial.sink) (g.S.Source.faults l.initial.source)) 0 →
      Holds l.item l.self first (streams (g.S.Source.left l.source) (g.K.Sink.held l.sink) (g.S.Source.faults l.source)) l.counter;
  keeps_up : KeepsUp l.self;
  source_counts : g.S.Source.faults l.initial.source ≤ g.S.Source.faults l.source;
  sink_counts : g.K.Sink.faults l.initial.sink ≤ g.K.Sink.faults l.sink;
}
