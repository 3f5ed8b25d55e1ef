-- The change is made behind the documents that wait.
use Rattle.std.proofs.Common.{Some}
use Rattle.px_feed.specs.declared.ending.Taken.TheVariants as taken
use Rattle.px_lines.specs.Standing.{streams}
use Rattle.px_gather.proofs.Turning.{cut_ended}
use Rattle.px_parallel.specs.Hearing.{HaveHeard}
use Rattle.px_parallel.proofs.running.Running.make.Goals as goal

pub answer_waiting-requires-clause-can_run : goal.answer_waiting-requires-clause-can_run
answer_waiting-requires-clause-can_run g c = λ lives within. (Some (taken.Item c.args.change), c.requires.can_run)

pub make_next-requires-clause-can_run : goal.make_next-requires-clause-can_run
make_next-requires-clause-can_run g c = λ lives within.
    let can = c.requires.can_run in
    let waited = (c.in-Ok.ensures {u = tt}).answers (Some (taken.Item c.args.change)) can.0 can.1 can.2 can.3 can.4 in
    (can.0, can.1, can.2, can.3, waited)

pub returns-in-Ok-clause-takes_up : goal.returns-in-Ok-clause-takes_up
returns-in-Ok-clause-takes_up g c = λ first left faults least r.
    c.make_next.ensures.takes_up first left faults least ((c.in-Ok.ensures {u = tt}).answers (Some (taken.Item c.args.change)) first left faults least r)

pub returns-in-Err-clause-takes_up : goal.returns-in-Err-clause-takes_up
returns-in-Err-clause-takes_up g c = λ first left faults least r.
    let now = streams left (g.K.Sink.held c.answer_waiting.new.sink) faults in
    cut_ended (HaveHeard g.N.HubName.passes g.L.Listener.heard) c.in-Err.status (c.answer_waiting.new.passes, c.answer_waiting.new.listener) first now
    ((c.in-Err.ensures {u = tt}).answers (Some (taken.Item c.args.change)) first left faults least r)
