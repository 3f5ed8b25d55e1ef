use Rattle.std.proofs.Common.{[], arith}
use Rattle.px_workload.proofs.Climbing.{live-rising, next-rising}
use Rattle.px_workload.proofs.Growing.{stays_small}
use Rattle.px_workload.proofs.laws.live_filters_are_in_order.Goals as goal

pub returns-clause-rising : goal.returns-clause-rising
returns-clause-rising c history legal = live-rising history legal

pub returns-clause-small : goal.returns-clause-small
returns-clause-small c history legal = stays_small 0 [] history (omega arith) legal.0

pub returns-clause-next : goal.returns-clause-next
returns-clause-next c history change legal = next-rising history change legal
