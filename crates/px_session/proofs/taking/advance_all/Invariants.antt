-- The call has taken the events before the place, behind those given before.
use Rattle.std.proofs.Common.{List, ◌<◌, ◌^◌, ◌++◌, take, length}
use Rattle.px_reader.specs.declared.event.Event.{Event}
use Rattle.px_hub.specs.Passes.{PassView}
use Rattle.px_hub.specs.OpenCalls.{HasTaken}
use Rattle.px_session.proofs.taking.advance_all.Given as goal

abbrev pub invariant-loop-event : goal.invariant-loop-event
invariant-loop-event g l =
    (v : PassView) (given : List Event) → HasTaken g.N.HubName.table v l.initial.pass l.initial.call given → length (given ++ l.events) < 2 ^ 60
    → HasTaken g.N.HubName.table v l.pass l.call (given ++ take l.event-index l.events)
