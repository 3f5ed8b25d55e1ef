-- An item is taken up, and the run ends at anything else.
use Rattle.std.proofs.Common.{Some, sym, subst}
use Rattle.px_feed.specs.declared.ending.Taken.{Taken}
use Rattle.px_gather.specs.Running.{CanRun, TakesUp}
use Rattle.px_parallel.specs.Hearing.{HaveHeard}
use Rattle.px_parallel.proofs.running.Running.take_up.Goals as goal

pub answer-requires-clause-can_run : goal.answer-requires-clause-can_run
answer-requires-clause-can_run g c = λ lives within.
    let P : Taken → Type 0 = λ found. CanRun (HaveHeard g.N.HubName.passes g.L.Listener.heard) (Some found) c.args.gathering.now (c.args.passes.now, c.args.listener.now)
    (g.K.Sink.held c.args.sink.now) in
    subst P c.in-Item.is c.requires.can_run

pub returns-in-Item-clause-takes_up : goal.returns-in-Item-clause-takes_up
returns-in-Item-clause-takes_up g c =
    let P : Taken → Type 0 = λ found. TakesUp (HaveHeard g.N.HubName.passes g.L.Listener.heard) found c.answer.result c.args.gathering.now c.answer.new.gathering
    (c.args.passes.now, c.args.listener.now) (c.answer.new.passes, c.answer.new.listener) (g.K.Sink.held c.args.sink.now) (g.K.Sink.held c.answer.new.sink) in
    subst P (sym c.in-Item.is) c.answer.ensures.takes_up

pub returns-in_default-clause-takes_up : goal.returns-in_default-clause-takes_up
returns-in_default-clause-takes_up g c = c.end.ensures.ends
