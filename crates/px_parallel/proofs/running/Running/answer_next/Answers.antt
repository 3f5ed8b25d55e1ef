-- The next item is taken, and taken up.
use Rattle.px_lines.specs.Standing.{streams}
use Rattle.px_gather.proofs.Turning.{cut_ended}
use Rattle.px_parallel.specs.Hearing.{HaveHeard}
use Rattle.px_parallel.proofs.running.Running.answer_next.Goals as goal

pub take_up-requires-clause-can_run : goal.take_up-requires-clause-can_run
take_up-requires-clause-can_run g c = λ lives within.
    let can = c.requires.can_turn in
    let r = can.2 in
    (can.0, g.S.Source.left c.take.new.source, g.S.Source.faults c.take.new.source, can.1, (r.0, (c.in-Ok.ensures {u = tt}).takes r.0 can.0 can.1 r.1, r.2))

pub returns-in-Ok-clause-turns : goal.returns-in-Ok-clause-turns
returns-in-Ok-clause-turns g c = λ first least r.
    c.take_up.ensures.takes_up first (g.S.Source.left c.take.new.source) (g.S.Source.faults c.take.new.source) least
    (r.0, (c.in-Ok.ensures {u = tt}).takes r.0 first least r.1, r.2)

pub returns-in-Err-clause-turns : goal.returns-in-Err-clause-turns
returns-in-Err-clause-turns g c = λ first least r.
    let now = streams (g.S.Source.left c.take.new.source) (g.K.Sink.held c.take.new.sink) (g.S.Source.faults c.take.new.source) in
    cut_ended (HaveHeard g.N.HubName.passes g.L.Listener.heard) c.in-Err.status (c.args.passes.now, c.args.listener.now) first now ((c.in-Err.ensures {u = tt}).takes r.0 first least r.1)
