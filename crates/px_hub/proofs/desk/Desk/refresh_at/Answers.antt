use Rattle.std.proofs.Common.{get_or, refl, ◌∙◌}
use Rattle.px_hub.proofs.Gathered.{one_is}
use Rattle.px_hub.proofs.desk.Desk.refresh_at.Goals as goal

pub returns-clause-refreshed : goal.returns-clause-refreshed
returns-clause-refreshed g c =
    let e = c.in_ok-refresh.ensures in
    one_is g.N.HubName.table.shape.banks g.N.HubName.passes c.in_ok-refresh.field-0 c.args.at c.args.self.now.past.seen c.args.passes.now (get_or c.args.passes.now c.args.at c.index-passes-at.result) c.refresh.new.pass
    c.index-passes-at.result c.requires.within refl e.refreshed (e.same ∙ e.desk) e.of_passes
