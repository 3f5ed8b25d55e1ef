-- The lines before this one are said.
use Rattle.std.proofs.Common.{◌≤◌, ◌++◌, List, ℕ, Option, take}
use Rattle.px_feed.specs.declared.line.OutLine.{OutLine}
use Rattle.px_lines.specs.Waiting.{HasSaid}
use Rattle.px_gather.proofs.saying.say_all.Given as goal

abbrev pub invariant-loop-line : goal.invariant-loop-line
invariant-loop-line g l = record {
  said : (held : Option (List ℕ)) (before : List OutLine) → HasSaid l.initial.outgoing held (g.K.Sink.held l.initial.sink) before →
      HasSaid l.outgoing held (g.K.Sink.held l.sink) (before ++ take l.line-index l.lines);
  counts : g.K.Sink.faults l.initial.sink ≤ g.K.Sink.faults l.sink;
}
