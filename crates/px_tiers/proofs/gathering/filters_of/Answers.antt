-- One filter more, and in the end those of all ids.
use Rattle.std.proofs.Common.{refl}
use Rattle.px_workload.specs.Changes.{history}
use Rattle.px_xpath.specs.Histories.{live}
use Rattle.px_xpath.specs.Subscribed.{subscriptions}
use Rattle.px_tiers.proofs.Collecting.{filters_more, filters_all}
use Rattle.px_tiers.proofs.gathering.filters_of.Goals as goal

pub loop-id-preserved : goal.loop-id-preserved
loop-id-preserved c = record {
  filters = filters_more c.args.ids.now (live (history c.args.journal.now.changes)) (subscriptions c.loop-id.filters.items) (subscriptions c.push_filter.new.filters.items) c.loop-id.id-index _ c.loop-id-test.true refl
      c.loop-id.invariant.filters c.in_ok-push_filter.ensures.pushed;
}

pub returns : goal.returns
returns c = record {
  filters =
      filters_all c.args.ids.now (live (history c.args.journal.now.changes)) (subscriptions c.loop-id.filters.items) c.loop-id.id-index c.loop-id-test.false c.loop-id.invariant.filters
      (c.live_filters_are_in_order.ensures.rising (history c.args.journal.now.changes) c.version-version.ensures.legal) c.requires.rising;
}
