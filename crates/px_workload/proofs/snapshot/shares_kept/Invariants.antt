-- What is shared is what the change keeps of what the first slots list.
use Rattle.std.proofs.Common.{◌≡◌, take}
use Rattle.px_xpath.specs.Subscribed.{subscriptions}
use Rattle.px_workload.specs.Changes.{change}
use Rattle.px_workload.specs.Slots.{kept, listed}
use Rattle.px_workload.proofs.snapshot.shares_kept.Given as goal

abbrev pub invariant-loop-at : goal.invariant-loop-at
invariant-loop-at l = subscriptions l.live.items ≡ kept (change l.change) (listed (take l.at l.slots))
