-- The change is made, and its line is said.
use Rattle.std.proofs.Common.{Some}
use Rattle.px_feed.specs.declared.ending.Taken.TheVariants as taken
use Rattle.px_feed.specs.declared.status.Status.TheVariants.{Memory}
use Rattle.px_lines.specs.Standing.{streams}
use Rattle.px_gather.proofs.Turning.{cut_ended, memory_cut, change_answered}
use Rattle.px_parallel.specs.Hearing.{HaveHeard}
use Rattle.px_parallel.proofs.running.Running.make_next.Goals as goal

pub change-requires-clause-before : goal.change-requires-clause-before
change-requires-clause-before g c = λ lives within. (let r = c.requires.can_run.4 in (r.0, r.2))

pub returns-in-Ok-clause-takes_up : goal.returns-in-Ok-clause-takes_up
returns-in-Ok-clause-takes_up g c =
    change_answered (HaveHeard g.N.HubName.passes g.L.Listener.heard) c.args.change c.in-Ok.line c.answer.result c.args.gathering.now c.answer.new.self
    (c.args.passes.now, c.args.listener.now) (c.change.new.passes, c.change.new.listener) (g.K.Sink.held c.args.sink.now) (g.K.Sink.held c.answer.new.sink)
    (c.in-Ok.ensures {u = tt}).line c.requires.none c.answer.ensures.answers

pub returns-in-Err-clause-takes_up : goal.returns-in-Err-clause-takes_up
returns-in-Err-clause-takes_up g c = λ first left faults least r.
    let answered = HaveHeard g.N.HubName.passes g.L.Listener.heard in
    let now = streams left (g.K.Sink.held c.args.sink.now) faults in
    cut_ended answered Memory (c.change.new.passes, c.change.new.listener) first now
    (memory_cut answered (Some (taken.Item c.args.change)) c.args.gathering.now (c.args.passes.now, c.args.listener.now) first now least r)
