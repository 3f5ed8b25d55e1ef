use Rattle.std.proofs.Common.{ℕ, List}
use Rattle.px_explain.specs.Incoming.{HasTaken}
use Rattle.px_rows.proofs.explanations.read_pieces.Given as goal

abbrev pub invariant-loop-piece : goal.invariant-loop-piece
invariant-loop-piece l = record {
  next : (goal.iterator-loop-piece).can_next l.piece-iterator;
  finite : (goal.iterator-loop-piece).is_finite l.piece-iterator;
  taken : (bytes : List ℕ) × HasTaken l.reader bytes;
}
