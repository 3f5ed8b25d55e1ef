-- The lines that have ended are read, and the rest of the piece is left.
use Rattle.std.proofs.Common.{◌≡◌, length}
use Rattle.px_reader.specs.Bringing.{Appends}
use Rattle.px_reader.specs.Progressing.{progress}
use Rattle.px_reader.proofs.Feeding.{ReadsTo}
use Rattle.px_reader.proofs.judge.Judge.take_piece.Given as goal

abbrev pub invariant-loop-feed : goal.invariant-loop-feed
invariant-loop-feed l = record {
  same : l.self.fault ≡ l.initial.self.fault;
  reads : ReadsTo (progress l.initial.self) (progress l.self) l.piece l.rest l.initial.out.items l.out.items;
  appends : Appends l.initial.out.items l.out.items;
}

abbrev pub decreases-loop-feed : goal.decreases-loop-feed
decreases-loop-feed l = length l.rest
