use Rattle.std.proofs.Common.{◌≡◌, ◌++◌, ◌∷◌, [], List, length, sym, ap, ◌∙◌, subst}
use Rattle.std.specs.Arc.{arc_value}
use Rattle.px_workload.specs.declared.change.Change.{Change}
use Rattle.px_workload.specs.Listed.{Listed}
use Rattle.px_hub.specs.Passes.{PassView, pass_view, AreLiveBehind, IsPass}
use Rattle.px_hub.specs.Calls.{Accepted}
use Rattle.px_hub.proofs.Keeping.{accepts}
use Rattle.px_hub.proofs.desk.Desk.accept.Given as given
use Rattle.px_hub.proofs.desk.Desk.accept.Goals as goal

abbrev before : (g : given.Over) (c : goal.After-drop-pass-inside g) → PassView
before g c = pass_view c.pass.inside.number c.pass.inside.seat.view (arc_value c.pass.inside.built).version c.pass.inside.home c.pass.inside.is_open

abbrev later : (g : given.Over) (c : goal.After-drop-pass-inside g) → PassView
later g c = pass_view c.pass.inside.number c.accept.new.pass.view (arc_value c.pass.inside.built).version c.pass.inside.home c.pass.inside.is_open

journal_is : (g : given.Over) (c : goal.After-drop-pass-inside g) → c.append-version.new.self.changes ≡ c.self.inside.journal.changes ++ c.args.change ∷ []
journal_is g c = c.append-version.ensures.accepted ∙ ap (λ l. l ++ c.args.change ∷ []) c.in_ok-reserve.ensures.same

both : (g : given.Over) (c : goal.After-drop-pass-inside g) → IsPass g.N.HubName.table g.N.HubName.passes c.accept.new.pass.table c.append-version.result (arc_value c.in_ok-live-2.live).filters (arc_value c.pass.inside.built) (later g c)
    × Accepted c.args.change c.append-version.result (before g c) (later g c)
both g c =
    let e = c.args.change in
    let seen : List Change = c.self.inside.seat.view.past.seen in
    let is_seen : c.self.inside.journal.changes ++ e ∷ [] ≡ seen ++ e ∷ [] = ap (λ l. l ++ e ∷ []) (sym c.self.invariant.seen) in
    let live = subst (λ l. AreLiveBehind l (arc_value c.in_ok-live-2.live).filters) is_seen (subst (λ (l : Listed). AreLiveBehind (c.self.inside.journal.changes ++ e ∷ []) l.filters) (sym c.in_ok-live-2.ensures.ok) c.in_ok-live.ensures.live) in
    accepts g.N.HubName.table c.pass.inside.seat.table c.accept.new.pass.table g.N.HubName.passes c.pass.inside.version c.append-version.result (arc_value c.pass.inside.live).filters (arc_value c.in_ok-live-2.live).filters (arc_value c.pass.inside.built)
    (before g c) c.accept.new.pass.view e seen c.self.inside.seat.view.past.made c.self.inside.seat.view.stay c.pass.invariant (c.requires.who ∙ ap (λ (v : PassView). v.number) (sym c.pass.view_is)) c.accept.ensures.before c.accept.ensures.pass
    c.self.invariant.made (c.accept.ensures.tables.1 ∙ c.requires.table) (c.append-version.ensures.version ∙ ap length (journal_is g c ∙ is_seen)) live

pub invariant_of-pass : goal.invariant_of-pass
invariant_of-pass g c = (both g c).0

pub returns-clause-accepted : goal.returns-clause-accepted
returns-clause-accepted g c = subst (λ (v : PassView). Accepted c.args.change c.append-version.result v (later g c)) c.pass.view_is (both g c).1
