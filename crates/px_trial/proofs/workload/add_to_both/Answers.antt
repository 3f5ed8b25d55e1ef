-- The list takes the change that the journal takes, and its version is above the ids of the live filters.
use Rattle.std.proofs.Common.{◌∙◌, ap}
use Rattle.px_workload.specs.Changes.{change}
use Rattle.px_workload.specs.declared.change.Change.TheVariants.{Add}
use Rattle.px_xpath.specs.Subscribed.{subscriptions}
use Rattle.px_trial.proofs.Legal.{comes_next, may_come, none_is, stays_listed}
use Rattle.px_trial.proofs.workload.add_to_both.Goals as goal

pub append-version-requires-clause-legal : goal.append-version-requires-clause-legal
append-version-requires-clause-legal c =
    may_come _ _ (Add 0 c.args.filter) c.reserve.ensures.same (c.refusal.ensures.legal (none_is c.refusal.result c.is_some.ensures c.if-is_some.false))

pub take-requires-clause-next : goal.take-requires-clause-next
take-requires-clause-next c =
    comes_next c.args.journal.now.changes c.reserve.new.self.changes c.append-version.new.self.changes c.reserve-2.new.self.filters (Add 0 c.args.filter) c.append-version.result
    c.live_filters_are_in_order.ensures.next
    (may_come _ _ (Add 0 c.args.filter) c.reserve.ensures.same (c.refusal.ensures.legal (none_is c.refusal.result c.is_some.ensures c.if-is_some.false)))
    c.reserve.ensures.same c.append-version.ensures.accepted c.append-version.ensures.version (ap subscriptions c.reserve-2.ensures.same ∙ c.requires.lists)

pub returns : goal.returns
returns c = record {
  lists =
      stays_listed c.args.journal.now.changes c.reserve.new.self.changes c.append-version.new.self.changes c.reserve-2.new.self.filters c.take.new.self.filters (Add 0 c.args.filter)
      (change c.in_ok-shared.shared) c.append-version.result c.reserve.ensures.same c.append-version.ensures.accepted c.append-version.ensures.version
      c.in_ok-shared.ensures.same (ap subscriptions c.reserve-2.ensures.same ∙ c.requires.lists) c.take.ensures.taken;
}
