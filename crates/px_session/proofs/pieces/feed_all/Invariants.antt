-- The session was fed the pieces before the place.
use Rattle.std.proofs.Common.{[], take}
use Rattle.px_hub.specs.Passes.{PassView}
use Rattle.px_session.specs.Sessions.{Follows, joined}
use Rattle.px_session.proofs.pieces.feed_all.Given as goal

abbrev pub invariant-loop-piece : goal.invariant-loop-piece
invariant-loop-piece g l = (v : PassView) → Follows g.N.HubName.table v l.initial.session [] → Follows g.N.HubName.table v l.session (joined (take l.piece-index l.pieces))
