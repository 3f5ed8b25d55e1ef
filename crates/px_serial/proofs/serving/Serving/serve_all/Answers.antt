-- A feed has not so many items.
use Rattle.std.proofs.Common.{ap, Err, arith}
use Rattle.px_io.proofs.Counts.{rose_later}
use Rattle.px_feed.specs.Items.{most_bytes}
use Rattle.px_lines.specs.Standing.{streams}
use Rattle.px_serial.proofs.FeedTaking.{holds_few, holds_less}
use Rattle.px_serial.proofs.serving.Serving.serve_all.Goals as goal

pub returns-in-Err-clause-ended : goal.returns-in-Err-clause-ended
returns-in-Err-clause-ended g c = λ first h. c.in-Err.ensures.serves first _ (c.loop.invariant.holds first h)

pub returns-in-Err-clause-write_fault : goal.returns-in-Err-clause-write_fault
returns-in-Err-clause-write_fault g c = λ e. rose_later _ _ _ c.loop.invariant.sink_counts (c.in-Err.ensures.write_fault (ap Err e))

pub loop-preserved : goal.loop-preserved
loop-preserved g c = record {
  holds = λ first h. c.in-Ok.ensures.serves first _ (c.loop.invariant.holds first h);
  keeps_up = c.in-Ok.ensures.keeps_up;
  source_counts = omega (arith, c.loop.invariant.source_counts, c.in-Ok.ensures.source_counts);
  sink_counts = omega (arith, c.loop.invariant.sink_counts, c.in-Ok.ensures.sink_counts);
}

pub unreachable-requires : goal.unreachable-requires
unreachable-requires g c =
    let begun = c.requires.held in
    let now = streams (g.S.Source.left c.loop.source) (g.K.Sink.held c.loop.sink) (g.S.Source.faults c.loop.source) in
    holds_few c.loop.item c.loop.self begun.0 now
    (holds_less c.loop.item c.loop.self begun.0 now c.loop.counter most_bytes c.loop-test.false (c.loop.invariant.holds begun.0 begun.1))
