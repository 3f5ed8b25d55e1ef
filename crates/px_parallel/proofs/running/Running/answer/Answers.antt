-- A document is kept, and a change is made.
use Rattle.std.proofs.Common.{Some, sym, subst}
use Rattle.px_feed.specs.declared.ending.Taken.TheVariants as taken
use Rattle.px_feed.specs.declared.item.Item.{Item as Given}
use Rattle.px_gather.specs.Running.{CanRun, TakesUp}
use Rattle.px_parallel.specs.Hearing.{HaveHeard}
use Rattle.px_parallel.proofs.running.Running.answer.Goals as goal

pub keep-requires-clause-can_run : goal.keep-requires-clause-can_run
keep-requires-clause-can_run g c = λ lives within.
    let P : Given → Type 0 = λ one. CanRun (HaveHeard g.N.HubName.passes g.L.Listener.heard) (Some (taken.Item one)) c.args.gathering.now (c.args.passes.now, c.args.listener.now)
    (g.K.Sink.held c.args.sink.now) in
    subst P c.in-Document.is c.requires.can_run

pub returns-in-Document-clause-takes_up : goal.returns-in-Document-clause-takes_up
returns-in-Document-clause-takes_up g c =
    let P : Given → Type 0 = λ one. TakesUp (HaveHeard g.N.HubName.passes g.L.Listener.heard) (taken.Item one) c.keep.result c.args.gathering.now c.keep.new.gathering
    (c.args.passes.now, c.args.listener.now) (c.keep.new.passes, c.keep.new.listener) (g.K.Sink.held c.args.sink.now) (g.K.Sink.held c.keep.new.sink) in
    subst P (sym c.in-Document.is) c.keep.ensures.takes_up
