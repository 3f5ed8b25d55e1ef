use Rattle.std.proofs.Common.{arith, rules}
use Rattle.px_jobs.proofs.Takers.{giver_less, takers_snoc}
use Rattle.px_jobs.proofs.jobs_line.Jobs.create.Goals as goal

pub loop-preserved : goal.loop-preserved
loop-preserved g c =
    let i = c.loop.invariant in (
      giver_less _ _ _ _ i.0 c.taker.ensures.giver,
      grind (arith, rules),
      grind (arith, rules),
      i.3,
      takers_snoc _ _ _ _ c.push_reserved.ensures.items i.4 c.taker.ensures.taker,
    )
