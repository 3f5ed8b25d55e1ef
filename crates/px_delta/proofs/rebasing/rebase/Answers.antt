-- Each call goes on from the one before.
use Rattle.std.proofs.Common.{List, sym, ap, subst, ◌∙◌}
use Rattle.px_workload.specs.declared.change.Change.{Change}
use Rattle.px_hub.specs.Passes.{PassView}
use Rattle.px_hub.specs.Calls.{seen_of, Refreshed, Met}
use Rattle.px_delta.proofs.Renewed.{rebased}
use Rattle.px_delta.proofs.rebasing.rebase.Goals as goal

pub returns-clause-rebased : goal.returns-clause-rebased
returns-clause-rebased g c =
    let banks = g.N.HubName.table.shape.banks in
    let q = c.note.new.pass in
    let u = c.note-2.new.pass in
    let A : PassView → Type 0 = λ r. Refreshed banks c.in_ok-refresh.field-0 c.args.front.now r in
    let B : List Change → Type 0 = λ seen. Met seen c.args.base.now c.meet.new.pass in
    let C : PassView → Type 0 = λ r. Refreshed banks c.in_ok-version.version c.meet.new.pass r in
    let D : List Change → Type 0 = λ seen. Met seen q c.meet-2.new.pass in
    rebased banks c.in_ok-refresh.field-0 c.in_ok-version.version c.args.base.now c.args.front.now c.meet.new.pass q u c.meet-2.new.pass
    (subst A (sym c.note.ensures.same) c.in_ok-refresh.ensures.refreshed) (subst B (c.in_ok-of_front.ensures.note ∙ ap seen_of (sym c.note.ensures.same)) c.meet.ensures)
    (subst C (sym c.note-2.ensures.same) c.in_ok-version.ensures.refreshed) (subst D (c.in_ok-of_base.ensures.note ∙ ap seen_of (sym c.note-2.ensures.same)) c.meet-2.ensures)
