use Rattle.std.proofs.Common.{List, take, sym, subst, arith}
use Rattle.px_reader.specs.declared.event.Event.{Event}
use Rattle.px_reader.specs.Happenings.{event_of}
use Rattle.px_hub.specs.OpenCalls.{HasTaken}
use Rattle.px_hub.proofs.Opening.{take_few, take_next}
use Rattle.px_hub.proofs.hub.Hub.advance_all.Goals as goal

pub advance-requires : goal.advance-requires
advance-requires g c =
    let b = c.requires.begun in
    let events : List Event = c.args.events.now in
    let few = take_few c.loop-place.place events in
    let all = c.requires.few in
    let long = c.len-place-end.ensures in
    record { begun = (b.0, take c.loop-place.place events, c.loop-place.invariant b.0 b.1, omega arith) }

pub loop-place-preserved : goal.loop-place-preserved
loop-place-preserved g c = λ v h.
    let events : List Event = c.args.events.now in
    let at = c.loop-place.place in
    let few = take_few at events in
    let all = c.requires.few in
    let long = c.len-place-end.ensures in
    subst (λ (l : List Event). HasTaken g.N.HubName.table v c.advance.new.pass c.advance.new.call l) (sym (take_next at events (event_of c.get.result) c.get.ensures))
    (c.in_ok-advance.ensures.ok v (take at events) (c.loop-place.invariant v h) (omega arith))
