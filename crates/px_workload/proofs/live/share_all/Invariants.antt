-- What is shared are the first filters.
use Rattle.std.proofs.Common.{◌≡◌, take}
use Rattle.px_xpath.specs.Subscribed.{subscriptions}
use Rattle.px_workload.proofs.live.share_all.Given as goal

abbrev pub invariant-loop-numbered : goal.invariant-loop-numbered
invariant-loop-numbered l = subscriptions l.shared.items ≡ subscriptions (take l.numbered-index l.filters)
