use Rattle.px_session.specs.Sessions.{joined}
use Rattle.px_session.proofs.pieces.feed_and_end.Goals as goal

pub returns : goal.returns
returns g c = λ v follows. c.end.ensures.answer v (joined c.args.pieces.now) (c.feed_all.ensures v follows)
