use Rattle.std.proofs.Common.{◌++◌, arith}
use Rattle.px_rows.proofs.explanations.read_pieces.Goals as goal

pub finish-requires : goal.finish-requires
finish-requires c =
    let taken = c.loop-piece.invariant.taken in
    (c.in-Ok-Some.document.now, taken.0 ++ c.in-Some.piece.now, (rw c.in-Ok-Some.field-0-is at c.in-Ok-Some.ensures.whole) taken.0 taken.1)

pub loop-piece-preserved : goal.loop-piece-preserved
loop-piece-preserved c =
    let taken = c.loop-piece.invariant.taken in
    record {
      next = (let same = c.next.ensures.steps.0 in let before = c.loop-piece.invariant.next in omega (arith, same, before));
      finite = tt;
      taken = (taken.0 ++ c.in-Some.piece.now, c.in-Ok-None.ensures.more c.in-Ok-None.field-0-is taken.0 taken.1);
    }
