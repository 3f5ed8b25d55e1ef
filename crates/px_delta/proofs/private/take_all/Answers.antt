-- The next event is taken.
use Rattle.std.proofs.Common.{◌≡◌, ◌++◌, List, take, get_or, sym, subst}
use Rattle.std.proofs.lemmas.Option.{slice_get_within, get_or_from_slice_get}
use Rattle.px_reader.specs.Happenings.{event_of}
use Rattle.px_reader.specs.declared.event.Event.{Event}
use Rattle.px_machine.specs.Machines.{HasRun}
use Rattle.px_delta.proofs.Holding.{taken_next}
use Rattle.px_delta.proofs.private.take_all.Goals as goal

pub loop-place-preserved : goal.loop-place-preserved
loop-place-preserved c =
    let events = c.args.events.now in
    let place = c.loop-place.place in
    let next = event_of c.get.result in
    let within = slice_get_within events place next c.get.ensures in
    let is : next ≡ get_or events place next = sym (get_or_from_slice_get events place next next c.get.ensures) in
    record {
      run = λ program given run.
          let P : List Event → Type 0 = λ es. HasRun c.event.new.self program es in
          subst P (taken_next given events place next within is) (c.in_ok-event.ensures.ok program (given ++ take place events) (c.loop-place.invariant.run program given run));
    }
