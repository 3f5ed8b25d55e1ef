-- The pairs so far are those of the first ones that are not in the second list.
use Rattle.std.proofs.Common.{◌≡◌, take}
use Rattle.px_xpath.specs.Subscribed.{subscriptions}
use Rattle.px_delta.specs.Lists.{without}
use Rattle.px_delta.specs.Sameness.{same_way}
use Rattle.px_delta.proofs.changed.changed.Given as goal

abbrev pub invariant-loop-numbered : goal.invariant-loop-numbered
invariant-loop-numbered l = record {
  pairs : subscriptions l.pairs.items ≡ without same_way (subscriptions (take l.numbered-index l.first)) (subscriptions l.second);
}
