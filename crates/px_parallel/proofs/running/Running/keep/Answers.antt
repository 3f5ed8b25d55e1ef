-- The document waits; where enough do, all are answered.
use Rattle.std.proofs.Common.{◌+◌, Some, None}
use Rattle.px_feed.specs.declared.ending.Taken.TheVariants as taken
use Rattle.px_feed.specs.declared.item.Item.TheVariants.{Document}
use Rattle.px_feed.specs.declared.status.Status.TheVariants.{Memory}
use Rattle.px_lines.specs.Standing.{streams}
use Rattle.px_gather.proofs.Turning.{cut_ended, memory_cut, kept_goes, waited_goes}
use Rattle.px_parallel.specs.Hearing.{HaveHeard}
use Rattle.px_parallel.proofs.running.Running.keep.Goals as goal

pub returns-in_default-clause-takes_up : goal.returns-in_default-clause-takes_up
returns-in_default-clause-takes_up g c = λ first left faults least r.
    let answered = HaveHeard g.N.HubName.passes g.L.Listener.heard in
    let now = streams left (g.K.Sink.held c.args.sink.now) faults in
    cut_ended answered Memory (c.args.passes.now, c.args.listener.now) first now
    (memory_cut answered (Some (taken.Item (Document c.args.doc))) c.args.gathering.now (c.args.passes.now, c.args.listener.now) first now least r)

pub answer_waiting-requires-clause-can_run : goal.answer_waiting-requires-clause-can_run
answer_waiting-requires-clause-can_run g c = λ lives within.
    let can = c.requires.can_run in
    let now = streams can.1 (g.K.Sink.held c.args.sink.now) can.2 in
    let goes = kept_goes (HaveHeard g.N.HubName.passes g.L.Listener.heard) c.args.doc c.args.gathering.now c.keep.new.self (c.args.passes.now, c.args.listener.now) can.0 now can.3
    (c.in-Ok.ensures {u = tt}) can.4 in
    (None, (can.0, can.1, can.2, can.3 + 1, goes))

pub returns-then-is_full-clause-takes_up : goal.returns-then-is_full-clause-takes_up
returns-then-is_full-clause-takes_up g c = λ first left faults least r.
    let answered = HaveHeard g.N.HubName.passes g.L.Listener.heard in
    let now = streams left (g.K.Sink.held c.args.sink.now) faults in
    let goes = kept_goes answered c.args.doc c.args.gathering.now c.keep.new.self (c.args.passes.now, c.args.listener.now) first now least (c.in-Ok.ensures {u = tt}) r in
    waited_goes answered c.answer_waiting.result c.answer_waiting.new.gathering (c.answer_waiting.new.passes, c.answer_waiting.new.listener) first
    (streams left (g.K.Sink.held c.answer_waiting.new.sink) faults) (least + 1) (c.answer_waiting.ensures.answers None first left faults (least + 1) goes)

pub returns-clause-takes_up : goal.returns-clause-takes_up
returns-clause-takes_up g c = λ first left faults least r.
    kept_goes (HaveHeard g.N.HubName.passes g.L.Listener.heard) c.args.doc c.args.gathering.now c.keep.new.self (c.args.passes.now, c.args.listener.now) first
    (streams left (g.K.Sink.held c.args.sink.now) faults) least (c.in-Ok.ensures {u = tt}) r
