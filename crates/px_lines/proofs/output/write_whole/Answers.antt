-- Each write goes on where the last one ended.
use Rattle.std.proofs.Common.{arith}
use Rattle.px_lines.proofs.Fronts.{adds_more, ends_within}
use Rattle.px_lines.proofs.output.write_whole.Goals as goal

pub loop-at-preserved : goal.loop-at-preserved
loop-at-preserved g c =
    let took = c.in-Took.ensures.takes in
    record {
      within = ends_within c.args.piece.now c.loop-at.at c.in-Took.count c.loop-at.invariant.within took.0;
      written = adds_more _ _ _ c.args.piece.now c.loop-at.at c.in-Took.count c.loop-at.invariant.written took.2;
      never_falls = omega (arith, c.loop-at.invariant.never_falls, c.in-Took.ensures.never_falls);
    }
