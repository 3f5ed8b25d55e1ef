-- What is shared is what the first slots list.
use Rattle.std.proofs.Common.{◌≡◌, take}
use Rattle.px_xpath.specs.Subscribed.{subscriptions}
use Rattle.px_workload.specs.Slots.{listed}
use Rattle.px_workload.proofs.snapshot.shares.Given as goal

abbrev pub invariant-loop-at : goal.invariant-loop-at
invariant-loop-at l = subscriptions l.live.items ≡ listed (take l.at l.slots)
