-- The list has the live filters of the journal.
use Rattle.std.proofs.Common.{◌≡◌}
use Rattle.px_workload.specs.Changes.{history}
use Rattle.px_xpath.specs.Histories as histories
use Rattle.px_xpath.specs.Subscribed.{subscriptions}
use Rattle.px_trial.proofs.timing.added_again.Given as goal

abbrev pub invariant-loop-numbered : goal.invariant-loop-numbered
invariant-loop-numbered l = subscriptions l.live.filters ≡ histories.live (history l.journal.changes)
