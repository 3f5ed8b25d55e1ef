use Rattle.std.proofs.Common.{◌≡◌, ℕ, ◌+◌, List, length, sym, ap, ◌∙◌, subst}
use Rattle.std.specs.Arc.{arc_value}
use Rattle.px_workload.specs.declared.change.Change.{Change}
use Rattle.px_workload.specs.Listed.{Listed}
use Rattle.px_rule.specs.declared.view.Stay.{Stay}
use Rattle.px_rule.specs.declared.view.View.{View}
use Rattle.px_rule.specs.Steps.{number_of}
use Rattle.px_hub.specs.declared.at_version.AtVersion.{AtVersion}
use Rattle.px_hub.specs.Banking.{GivesHome}
use Rattle.px_hub.specs.Passes.{PassView, pass_view, AreLiveBehind, IsBuilt}
use Rattle.px_hub.specs.Calls.{Refreshed}
use Rattle.px_hub.proofs.Homes.{refreshes}
use Rattle.px_hub.proofs.Machines.{live_of}
use Rattle.px_hub.proofs.desk.Desk.refresh.Goals as goal

pub invariant_of-pass : goal.invariant_of-pass
invariant_of-pass g c =
    let p : PassView = pass_view c.pass.inside.number c.pass.inside.seat.view (arc_value c.pass.inside.built).version c.pass.inside.home c.pass.inside.is_open in
    let m : AtVersion = arc_value c.in_ok-built.built in
    let log : List Change = c.self.inside.seat.view.past.seen in
    let d : Stay = c.give_home-home.new.desk.view.stay in
    let w : View Change = c.give_home-home.new.pass.view in
    let home = c.give_home-home.result in
    let was : c.args.self.now.past.seen ≡ log = ap (λ (v : View Change). v.past.seen) (sym c.in_ok-built.ensures.same ∙ sym c.self.view_is) in
    let machine = subst (λ l. (m.version ≡ length l) × IsBuilt l m) was c.in_ok-built.ensures.machine in
    let version_is : c.version-version.result ≡ length log = c.version-version.ensures.version ∙ ap length (sym c.self.invariant.seen) in
    let same_live : arc_value c.in_ok-live.live ≡ arc_value m.live = c.in_ok-live.ensures ∙ ap (λ (x : AtVersion). arc_value x.live) c.deref.ensures in
    let live = subst (λ (l : Listed). AreLiveBehind log l.filters) (sym same_live) (live_of log m machine.0 machine.1) in
    let gives = subst (λ (y : ℕ × ℕ). GivesHome c.self.inside.stands.items y.1 (number_of p.view.past.kind) (p.view.past.loads + 1) y.0 d home) (λ i. ((c.requires.table i).shape.banks, version_is i)) c.give_home-home.ensures.home in
    let settled = c.give_home-home.ensures.pass in
    let both = refreshes g.N.HubName.table c.pass.inside.seat.table c.give_home-home.new.pass.table g.N.HubName.passes c.pass.inside.version c.version-version.result (arc_value c.pass.inside.live).filters (arc_value c.in_ok-live.live).filters
    (arc_value c.pass.inside.built) m p d w home settled.0 c.self.inside.seat.view.past.made log c.self.inside.stands.items c.pass.invariant gives settled.1 c.self.invariant.made (c.give_home-home.ensures.tables.1 ∙ c.requires.table) version_is live machine.0 machine.1 (ap (λ (v : PassView). v.is_open) c.pass.view_is ∙ c.requires.closed) in
    both.0

pub returns-clause-refreshed : goal.returns-clause-refreshed
returns-clause-refreshed g c =
    let p : PassView = pass_view c.pass.inside.number c.pass.inside.seat.view (arc_value c.pass.inside.built).version c.pass.inside.home c.pass.inside.is_open in
    let m : AtVersion = arc_value c.in_ok-built.built in
    let log : List Change = c.self.inside.seat.view.past.seen in
    let d : Stay = c.give_home-home.new.desk.view.stay in
    let w : View Change = c.give_home-home.new.pass.view in
    let home = c.give_home-home.result in
    let was : c.args.self.now.past.seen ≡ log = ap (λ (v : View Change). v.past.seen) (sym c.in_ok-built.ensures.same ∙ sym c.self.view_is) in
    let machine = subst (λ l. (m.version ≡ length l) × IsBuilt l m) was c.in_ok-built.ensures.machine in
    let version_is : c.version-version.result ≡ length log = c.version-version.ensures.version ∙ ap length (sym c.self.invariant.seen) in
    let same_live : arc_value c.in_ok-live.live ≡ arc_value m.live = c.in_ok-live.ensures ∙ ap (λ (x : AtVersion). arc_value x.live) c.deref.ensures in
    let live = subst (λ (l : Listed). AreLiveBehind log l.filters) (sym same_live) (live_of log m machine.0 machine.1) in
    let gives = subst (λ (y : ℕ × ℕ). GivesHome c.self.inside.stands.items y.1 (number_of p.view.past.kind) (p.view.past.loads + 1) y.0 d home) (λ i. ((c.requires.table i).shape.banks, version_is i)) c.give_home-home.ensures.home in
    let settled = c.give_home-home.ensures.pass in
    let both = refreshes g.N.HubName.table c.pass.inside.seat.table c.give_home-home.new.pass.table g.N.HubName.passes c.pass.inside.version c.version-version.result (arc_value c.pass.inside.live).filters (arc_value c.in_ok-live.live).filters
    (arc_value c.pass.inside.built) m p d w home settled.0 c.self.inside.seat.view.past.made log c.self.inside.stands.items c.pass.invariant gives settled.1 c.self.invariant.made (c.give_home-home.ensures.tables.1 ∙ c.requires.table) version_is live machine.0 machine.1 (ap (λ (v : PassView). v.is_open) c.pass.view_is ∙ c.requires.closed) in
    subst (λ (v : PassView). Refreshed g.N.HubName.table.shape.banks c.version-version.result v (pass_view c.pass.inside.number w m.version home c.pass.inside.is_open)) c.pass.view_is both.1
