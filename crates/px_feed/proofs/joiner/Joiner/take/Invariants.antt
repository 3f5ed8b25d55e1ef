-- The piece is taken up to the rest.
use Rattle.std.proofs.Common.{length}
use Rattle.px_feed.proofs.Pieces.{TakesTo}
use Rattle.px_feed.proofs.joiner.Joiner.take.Given as goal

abbrev pub invariant-loop-feed : goal.invariant-loop-feed
invariant-loop-feed l = TakesTo l.initial.self l.self l.piece l.rest

abbrev pub decreases-loop-feed : goal.decreases-loop-feed
decreases-loop-feed l = length l.rest
