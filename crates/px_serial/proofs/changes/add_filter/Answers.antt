use Rattle.std.proofs.Common.{List, ap, refl, sym, ◌∙◌}
use Rattle.px_feed.specs.declared.line.OutLine.TheVariants.{Added}
use Rattle.px_workload.specs.Changes.{history}
use Rattle.px_xpath.specs.Histories as histories
use Rattle.px_xpath.specs.Whole.{filter as way_of}
use Rattle.px_serial.proofs.changes.add_filter.Goals as goal
use Rattle.px_serial.proofs.Changing.{add_known, add_refused, added}

pub refused_add-requires : goal.refused_add-requires
refused_add-requires c = record { no_id = add_known (history c.args.journal.now.changes) (way_of c.args.filter) c.in-Some.refusal c.in-Some.ensures.refusal }

pub returns-in-Some : goal.returns-in-Some
returns-in-Some c = add_refused (history c.args.journal.now.changes) (way_of c.args.filter) c.in-Some.refusal c.refused_add.result c.in-Some.ensures.refusal c.refused_add.ensures.line

pub accept-requires : goal.accept-requires
accept-requires c = record { legal = c.in-None.ensures.legal refl }

pub returns-in_ok-id-in-None : goal.returns-in_ok-id-in-None
returns-in_ok-id-in-None c =
    added (history c.args.journal.now.changes) (way_of c.args.filter) c.in_ok-id-in-None.id (sym c.in-None.ensures.refusal) c.in_ok-id-in-None.ensures.version
    ∙ ap (λ (h : List histories.Change). (Added c.in_ok-id-in-None.id, h)) (sym c.in_ok-id-in-None.ensures.history)
