-- A feed has not so many items.
use Rattle.px_lines.specs.Standing.{streams}
use Rattle.px_gather.proofs.Taking.{waits_few}
use Rattle.px_parallel.proofs.running.Running.answer_all.Goals as goal

pub returns-in-Err-clause-ended : goal.returns-in-Err-clause-ended
returns-in-Err-clause-ended g c =
    let first = streams (g.S.Source.left c.args.source.now) (g.K.Sink.held c.args.sink.now) (g.S.Source.faults c.args.source.now) in
    (c.in-Err.ensures {u = tt}).turns first c.loop.counter c.loop.invariant.goes

pub unreachable-requires : goal.unreachable-requires
unreachable-requires g c =
    let first = streams (g.S.Source.left c.args.source.now) (g.K.Sink.held c.args.sink.now) (g.S.Source.faults c.args.source.now) in
    let now = streams (g.S.Source.left c.loop.source) (g.K.Sink.held c.loop.sink) (g.S.Source.faults c.loop.source) in
    let goes = c.loop.invariant.goes in
    waits_few c.loop.gathering goes.0 first now c.loop.counter c.loop-test.false goes.1
