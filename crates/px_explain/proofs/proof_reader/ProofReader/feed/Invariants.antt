-- The lines that have ended are taken, and the rest of the piece is left.
use Rattle.std.proofs.Common.{length}
use Rattle.px_explain.proofs.Incoming.{TakesTo}
use Rattle.px_explain.proofs.proof_reader.ProofReader.feed.Given as goal

abbrev pub invariant-loop-at : goal.invariant-loop-at
invariant-loop-at l = TakesTo l.initial.self l.self l.piece l.rest

abbrev pub decreases-loop-at : goal.decreases-loop-at
decreases-loop-at l = length l.rest
