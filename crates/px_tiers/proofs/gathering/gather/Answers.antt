-- The ids of one tier more.
use Rattle.std.proofs.Common.{ap, ◌∙◌}
use Rattle.px_text.specs.Sets.{has}
use Rattle.px_tiers.specs.HomeTables.{home_of}
use Rattle.px_tiers.proofs.Settling.{taken_next}
use Rattle.px_tiers.proofs.gathering.gather.Goals as goal

pub loop-tier-preserved : goal.loop-tier-preserved
loop-tier-preserved c = record {
  old = λ q h. c.in_ok-gather_one.ensures.old q (c.loop-tier.invariant.old q h);
  new = taken_next (home_of c.args.homes.now) c.args.kept c.args.tiers.now c.loop-tier.gathered.items c.gather_one.new.gathered.items c.loop-tier.tier-index c.tier-item.result c.loop-tier-test.true c.tier-item.is
      c.loop-tier.invariant.new c.in_ok-gather_one.ensures.old
      (λ q h. c.in_ok-gather_one.ensures.new q (ap (λ ids. has ids q) c.ids.ensures.all ∙ h));
}
