use Rattle.std.proofs.Common.{◌≡◌, true, false, [], subst}
use Rattle.std.specs.Arc.{arc_value}
use Rattle.px_afa.specs.Building.{Automata}
use Rattle.px_hub.specs.Passes.{PassView, pass_view}
use Rattle.px_hub.specs.Counting.{HasCounted}
use Rattle.px_hub.proofs.Opening.{pass_opens}
use Rattle.px_hub.proofs.pass.Pass.begin_alone.Goals as goal

pub invariant_of-self : goal.invariant_of-self
invariant_of-self g c =
    let p : PassView = pass_view c.self.inside.number c.self.inside.seat.view (arc_value c.self.inside.built).version c.self.inside.home c.self.inside.is_open in
    pass_opens g.N.HubName.table c.self.inside.seat.table g.N.HubName.passes c.self.inside.version (arc_value c.self.inside.live).filters (arc_value c.self.inside.built) p true c.self.invariant (λ e. absurd (cc))

pub returns-clause-call : goal.returns-clause-call
returns-clause-call g c = (c.in_ok-lone.lone, c.of.ensures, subst (λ (a : Automata). HasCounted c.in_ok-lone.lone a []) c.in_ok-program.ensures c.in_ok-lone.ensures)
