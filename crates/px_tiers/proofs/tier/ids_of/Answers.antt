-- One id more.
use Rattle.px_tiers.proofs.Matching.{ids_more}
use Rattle.px_tiers.proofs.tier.ids_of.Goals as goal

pub loop-numbered-preserved : goal.loop-numbered-preserved
loop-numbered-preserved c = record {
  all = ids_more c.args.filters.now c.loop-numbered.ids.items c.push.new.self.items c.loop-numbered.numbered-index c.numbered-item.result c.loop-numbered-test.true c.numbered-item.is c.loop-numbered.invariant.all c.in_ok-push.ensures.items;
}
