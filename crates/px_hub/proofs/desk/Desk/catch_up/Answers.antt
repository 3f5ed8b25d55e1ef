use Rattle.std.proofs.Common.{◌≡◌, List, length, sym, ap, ◌∙◌, subst}
use Rattle.std.specs.Arc.{arc_value}
use Rattle.px_workload.specs.declared.change.Change.{Change}
use Rattle.px_workload.specs.Listed.{Listed}
use Rattle.px_hub.specs.Passes.{PassView, pass_view, AreLiveBehind, IsPass}
use Rattle.px_hub.specs.Calls.{CaughtUp}
use Rattle.px_hub.proofs.Keeping.{catches_up}
use Rattle.px_hub.proofs.desk.Desk.catch_up.Given as given
use Rattle.px_hub.proofs.desk.Desk.catch_up.Goals as goal

abbrev before : (g : given.Over) (c : goal.After-drop-pass-inside g) → PassView
before g c = pass_view c.pass.inside.number c.pass.inside.seat.view (arc_value c.pass.inside.built).version c.pass.inside.home c.pass.inside.is_open

abbrev later : (g : given.Over) (c : goal.After-drop-pass-inside g) → PassView
later g c = pass_view c.pass.inside.number c.catch_up.new.pass.view (arc_value c.pass.inside.built).version c.pass.inside.home c.pass.inside.is_open

both : (g : given.Over) (c : goal.After-drop-pass-inside g) → IsPass g.N.HubName.table g.N.HubName.passes c.catch_up.new.pass.table c.version-version.result (arc_value c.in_ok-live-2.live).filters (arc_value c.pass.inside.built) (later g c)
    × CaughtUp (before g c) (later g c)
both g c =
    let seen : List Change = c.self.inside.seat.view.past.seen in
    let is_seen : c.self.inside.journal.changes ≡ seen = sym c.self.invariant.seen in
    let live = subst (λ l. AreLiveBehind l (arc_value c.in_ok-live-2.live).filters) is_seen (subst (λ (l : Listed). AreLiveBehind c.self.inside.journal.changes l.filters) (sym c.in_ok-live-2.ensures.ok) c.in_ok-live.ensures.live) in
    catches_up g.N.HubName.table c.pass.inside.seat.table c.catch_up.new.pass.table g.N.HubName.passes c.pass.inside.version c.version-version.result (arc_value c.pass.inside.live).filters (arc_value c.in_ok-live-2.live).filters (arc_value c.pass.inside.built)
    (before g c) c.catch_up.new.pass.view seen c.self.inside.seat.view.past.made c.self.inside.seat.view.stay c.pass.invariant c.catch_up.ensures.pass
    c.self.invariant.made (c.catch_up.ensures.tables.1 ∙ c.requires.table) (c.version-version.ensures.version ∙ ap length is_seen) live

pub invariant_of-pass : goal.invariant_of-pass
invariant_of-pass g c = (both g c).0

pub returns-clause-caught : goal.returns-clause-caught
returns-clause-caught g c = subst (λ (v : PassView). CaughtUp v (later g c)) c.pass.view_is (both g c).1
