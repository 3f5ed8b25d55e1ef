use Rattle.std.proofs.Common.{ap}
use Rattle.std.specs.Arc.{arc_value}
use Rattle.px_workload.specs.Changes.{history}
use Rattle.px_workload.specs.Listed.{Listed}
use Rattle.px_hub.proofs.Machines.{are_live}
use Rattle.px_hub.proofs.pass.Pass.own_program.Goals as goal

pub build-requires : goal.build-requires
build-requires g c =
    let seen = c.self.inside.seat.view.past.seen in
    let legal = c.self.invariant.seen.is_legal in
    let laws = c.live_filters_are_in_order.ensures in
    record { live = are_live c.deref-2.result.now.filters (arc_value c.self.inside.live).filters seen (ap (λ (l : Listed). l.filters) c.deref-2.ensures) c.self.invariant.live (laws.rising (history seen) legal) (laws.small (history seen) legal) }
