-- So many of the first ones are not in the second list.
use Rattle.std.proofs.Common.{◌≡◌, ◌≤◌, length, take}
use Rattle.px_xpath.specs.Subscribed.{subscriptions}
use Rattle.px_delta.specs.Lists.{without}
use Rattle.px_delta.specs.Sameness.{same_way}
use Rattle.px_delta.proofs.changed.count_changed.Given as goal

abbrev pub invariant-loop-numbered : goal.invariant-loop-numbered
invariant-loop-numbered l = record {
  count : l.count ≡ length (without same_way (subscriptions (take l.numbered-index l.first)) (subscriptions l.second));
  few : l.count ≤ l.numbered-index;
}
