-- The filters are those of the ids so far.
use Rattle.std.proofs.Common.{◌≡◌, take}
use Rattle.px_workload.specs.Changes.{history}
use Rattle.px_xpath.specs.Histories.{live}
use Rattle.px_xpath.specs.Subscribed.{subscriptions}
use Rattle.px_tiers.proofs.Collecting.{collected}
use Rattle.px_tiers.proofs.gathering.filters_of.Given as goal

abbrev pub invariant-loop-id : goal.invariant-loop-id
invariant-loop-id l = record {
  filters : subscriptions l.filters.items ≡ collected (take l.id-index l.ids) (live (history l.journal.changes));
}
