-- The ids so far are kept but for those of dropped pairs.
use Rattle.std.proofs.Common.{◌≡◌, take}
use Rattle.px_xpath.specs.Subscribed.{subscriptions}
use Rattle.px_delta.specs.Lists.{without_ids}
use Rattle.px_delta.proofs.merging.kept.Given as goal

abbrev pub invariant-loop-id : goal.invariant-loop-id
invariant-loop-id l = record {
  kept : l.kept.items ≡ without_ids (take l.id-index l.ids) (subscriptions l.dropped);
}
