-- The call has taken the events before the place.
use Rattle.std.proofs.Common.{take, []}
use Rattle.px_hub.specs.Passes.{PassView}
use Rattle.px_hub.specs.OpenCalls.{HasTaken}
use Rattle.px_hub.proofs.hub.Hub.advance_all.Given as goal

abbrev pub invariant-loop-place : goal.invariant-loop-place
invariant-loop-place g l =
    (v : PassView) → HasTaken g.N.HubName.table v l.initial.pass l.initial.call [] → HasTaken g.N.HubName.table v l.pass l.call (take l.place l.events)
