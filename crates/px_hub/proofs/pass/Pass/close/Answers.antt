use Rattle.std.proofs.Common.{◌≡◌, false, ap, ◌∙◌}
use Rattle.std.specs.Arc.{arc_value}
use Rattle.px_hub.specs.Passes.{PassView, pass_view}
use Rattle.px_hub.proofs.Opening.{pass_opens}
use Rattle.px_hub.proofs.pass.Pass.close.Goals as goal

pub invariant_of-self : goal.invariant_of-self
invariant_of-self g c =
    let p : PassView = pass_view c.self.inside.number c.self.inside.seat.view (arc_value c.self.inside.built).version c.self.inside.home c.self.inside.is_open in
    pass_opens g.N.HubName.table c.self.inside.seat.table g.N.HubName.passes c.self.inside.version (arc_value c.self.inside.live).filters (arc_value c.self.inside.built) p false c.self.invariant
    (λ _. ap (λ (v : PassView). v.view.stay.place) c.self.view_is ∙ c.requires.outside)
