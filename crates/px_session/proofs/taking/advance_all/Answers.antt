use Rattle.std.proofs.Common.{◌<◌, ◌^◌, List, ◌++◌, length, take, sym, ◌∙◌, subst, append-nil}
use Rattle.px_reader.specs.declared.event.Event.{Event}
use Rattle.px_reader.specs.Happenings.{event_of}
use Rattle.px_hub.specs.Passes.{PassView}
use Rattle.px_hub.specs.OpenCalls.{HasTaken, IsOpen}
use Rattle.px_hub.proofs.Gathered.{on_err}
use Rattle.px_session.proofs.Joining.{one_less, take_one}
use Rattle.px_session.proofs.taking.advance_all.Goals as goal

pub loop-event-init : goal.loop-event-init
loop-event-init g c = λ v given h few. subst (λ (l : List Event). HasTaken g.N.HubName.table v c.args.pass.now c.args.call.now l) (sym (append-nil given)) h

pub advance-requires : goal.advance-requires
advance-requires g c =
    let b = c.requires in
    let at = c.loop-event.event-index in
    let events : List Event = c.args.events.now in
    record { begun = (b.0, b.1 ++ take at events, c.loop-event.invariant b.0 b.1 b.2 b.3, one_less b.1 events at c.loop-event-test.true b.3) }

pub loop-event-preserved : goal.loop-event-preserved
loop-event-preserved g c = λ v given h few.
    let at = c.loop-event.event-index in
    let events : List Event = c.args.events.now in
    subst (λ (l : List Event). HasTaken g.N.HubName.table v c.advance.new.pass c.advance.new.call l) (take_one given events at c.event-item.result (event_of c.seen.result) c.loop-event-test.true (sym c.event-item.is ∙ sym c.seen.ensures.same))
    (c.in_ok-advance.ensures.ok v (given ++ take at events) (c.loop-event.invariant v given h few) (one_less given events at c.loop-event-test.true few))

pub returns-in_err-advance-clause-memory : goal.returns-in_err-advance-clause-memory
returns-in_err-advance-clause-memory g c =
    on_err c.from_residual.result ((v : PassView) (given : List Event) → HasTaken g.N.HubName.table v c.args.pass.now c.args.call.now given → length (given ++ c.args.events.now) < 2 ^ 60 → IsOpen v c.advance.new.pass c.advance.new.call)
    (λ v given h few. c.in_err-advance.ensures.memory v (given ++ take c.loop-event.event-index c.args.events.now) (c.loop-event.invariant v given h few))
