use Rattle.std.proofs.Common.{◌≡◌, [], sym, ap, ◌∙◌, subst}
use Rattle.std.specs.Arc.{arc_value}
use Rattle.px_workload.specs.declared.change.Change.{Change}
use Rattle.px_workload.specs.Listed.{Listed}
use Rattle.px_rule.specs.declared.view.View.{View}
use Rattle.px_rule.specs.Steps.{whole_pass}
use Rattle.px_hub.specs.declared.at_version.AtVersion.{AtVersion}
use Rattle.px_hub.specs.Passes.{IsBuilt}
use Rattle.px_hub.proofs.Beginning.{new_pass}
use Rattle.px_hub.proofs.parts.enroll.Goals as goal

pub invariant_of-result : goal.invariant_of-result
invariant_of-result g c =
    let m : AtVersion = arc_value c.in_ok-built.built in
    let same = c.in_ok-built.ensures in
    let live : Listed = arc_value c.in_ok-live.live in
    let live_is : live ≡ arc_value m.live = c.in_ok-live.ensures ∙ (ap (λ (x : AtVersion). arc_value x.live) c.deref.ensures ∙ ap (λ (x : AtVersion). arc_value x.live) (sym same)) in
    new_pass g.N.HubName.table c.pass.result.table g.N.HubName.passes c.args.number live.filters m c.pass.result.view
    (c.pass.ensures.table.1 ∙ (c.requires.table.1 ∙ c.requires.table.0)) c.requires.number.0 c.requires.banks (ap (λ (x : AtVersion). x.version) same ∙ c.requires.built.0)
    (subst (λ (x : AtVersion). IsBuilt [] x) (sym same) c.requires.built.1) (ap (λ (l : Listed). l.filters) live_is) (c.pass.ensures.pass ∙ ap (λ (v : View Change). whole_pass v) c.requires.desk)
