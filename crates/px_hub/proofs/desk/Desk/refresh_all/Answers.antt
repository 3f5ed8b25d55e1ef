use Rattle.std.proofs.Common.{◌≡◌, ℕ, List, length, refl, sym, ap, ◌∙◌, subst, arith}
use Rattle.px_workload.specs.declared.change.Change.{Change}
use Rattle.px_hub.specs.Passes.{PassView}
use Rattle.px_hub.specs.AllOfThem.{RefreshedAt, SomeRefreshed}
use Rattle.px_hub.proofs.Gathered.{Sofar, none_yet, one_more, closed_yet, some_are, all_are, on_err}
use Rattle.px_hub.proofs.desk.Desk.refresh_all.Goals as goal

pub loop-at-init : goal.loop-at-init
loop-at-init g c = (refl, none_yet g.N.HubName.table.shape.banks g.N.HubName.passes c.args.self.now.past.seen c.args.passes.now)

pub refresh_at-requires : goal.refresh_at-requires
refresh_at-requires g c =
    let i = c.loop-at.invariant in
    let long = i.1.as_many in
    record {
      table = c.requires.table;
      within = omega arith;
      closed = closed_yet g.N.HubName.table.shape.banks g.N.HubName.passes c.args.self.now.past.seen c.loop-at.at c.args.passes.now c.loop-at.passes i.1 c.requires.closed;
    }

pub returns-in_err-refresh_at-clause-memory : goal.returns-in_err-refresh_at-clause-memory
returns-in_err-refresh_at-clause-memory g c =
    let i = c.loop-at.invariant in
    let some = some_are g.N.HubName.table.shape.banks g.N.HubName.passes c.args.self.now.past.seen c.loop-at.at c.args.passes.now c.loop-at.passes i.1 in
    let now = subst (λ (l : List PassView). SomeRefreshed g.N.HubName.table.shape.banks c.args.passes.now l) (sym c.in_err-refresh_at.ensures.unchanged) some in
    on_err c.from_residual.result (SomeRefreshed g.N.HubName.table.shape.banks c.args.passes.now c.refresh_at.new.passes) now

pub loop-at-preserved : goal.loop-at-preserved
loop-at-preserved g c =
    let i = c.loop-at.invariant in
    let banks = g.N.HubName.table.shape.banks in
    let passes = g.N.HubName.passes in
    let e = c.in_ok-refresh_at.ensures in
    let one = subst (λ (l : List Change). RefreshedAt banks passes l c.loop-at.at c.loop-at.passes c.refresh_at.new.passes) i.0 e.refreshed in
    (e.desk ∙ i.0, one_more banks passes c.args.self.now.past.seen c.loop-at.at c.args.passes.now c.loop-at.passes c.refresh_at.new.passes i.1 (omega arith) one)

pub returns-clause-refreshed : goal.returns-clause-refreshed
returns-clause-refreshed g c =
    let i = c.loop-at.invariant in
    let banks = g.N.HubName.table.shape.banks in
    let passes = g.N.HubName.passes in
    let log = c.args.self.now.past.seen in
    let ended : c.loop-at.at ≡ length c.args.passes.now = omega arith in
    all_are banks passes log c.version.result c.args.passes.now c.loop-at.passes (subst (λ (n : ℕ). Sofar banks passes log n c.args.passes.now c.loop-at.passes) ended i.1) c.requires.every (c.version.ensures.version ∙ ap length i.0)
