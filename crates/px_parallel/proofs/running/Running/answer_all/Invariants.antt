-- So many items at least were taken up.
use Rattle.std.proofs.Common.{◌≤◌}
use Rattle.px_lines.specs.Standing.{streams}
use Rattle.px_gather.specs.Running.{Goes}
use Rattle.px_parallel.specs.Hearing.{HaveHeard}
use Rattle.px_parallel.proofs.running.Running.answer_all.Given as goal

abbrev pub invariant-loop : goal.invariant-loop
invariant-loop g l = record {
  goes : Goes (HaveHeard g.N.HubName.passes g.L.Listener.heard) l.gathering (l.passes, l.listener)
      (streams (g.S.Source.left l.initial.source) (g.K.Sink.held l.initial.sink) (g.S.Source.faults l.initial.source))
      (streams (g.S.Source.left l.source) (g.K.Sink.held l.sink) (g.S.Source.faults l.source)) l.counter;
  source_counts : g.S.Source.faults l.initial.source ≤ g.S.Source.faults l.source;
  sink_counts : g.K.Sink.faults l.initial.sink ≤ g.K.Sink.faults l.sink;
}
