use Rattle.std.proofs.Common.{◌≡◌, false, [], refl, ap, ◌∙◌}
use Rattle.std.specs.Arc.{arc_value}
use Rattle.px_workload.specs.declared.change.Change.{Change}
use Rattle.px_rule.specs.declared.view.View.{View}
use Rattle.px_hub.specs.Passes.{PassView, pass_view}
use Rattle.px_hub.proofs.Opening.{pass_moves}
use Rattle.px_hub.proofs.hub.Hub.leave.Goals as goal

pub invariant_of-pass : goal.invariant_of-pass
invariant_of-pass g c =
    let p : PassView = pass_view c.pass.inside.number c.pass.inside.seat.view (arc_value c.pass.inside.built).version c.pass.inside.home c.pass.inside.is_open in
    let view = c.leave.ensures.view in
    pass_moves g.N.HubName.table c.pass.inside.seat.table c.leave.new.pass.table g.N.HubName.passes c.pass.inside.version (arc_value c.pass.inside.live).filters (arc_value c.pass.inside.built) p c.leave.new.pass.view false [] c.pass.invariant
    (c.leave.ensures.table ∙ c.pass.invariant.at_table) (ap (λ (v : View Change). v.past) view) (ap (λ (v : View Change). v.stay.stays) view) (ap (λ (v : View Change). v.stay.busy) view) (λ _. ap (λ (v : View Change). v.stay.place) view)
