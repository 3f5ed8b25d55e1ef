use Rattle.std.proofs.Common.{List, ap, refl, sym, ◌∙◌}
use Rattle.px_feed.specs.declared.line.OutLine.TheVariants.{Dropped}
use Rattle.px_workload.specs.Changes.{history}
use Rattle.px_xpath.specs.Histories as histories
use Rattle.px_serial.proofs.changes.remove_named.Goals as goal
use Rattle.px_serial.proofs.Changing.{drop_refused, drop_small, dropped}

pub refused_drop-requires : goal.refused_drop-requires
refused_drop-requires c = record { no_filter = drop_small (history c.args.journal.now.changes) c.args.id c.in-Some.refusal c.in-Some.ensures.refusal }

pub returns-in-Some : goal.returns-in-Some
returns-in-Some c = drop_refused (history c.args.journal.now.changes) c.args.id c.in-Some.refusal c.refused_drop.result c.in-Some.ensures.refusal c.refused_drop.ensures.line

pub accept-requires : goal.accept-requires
accept-requires c = record { legal = c.in-None.ensures.legal refl }

pub returns-in_ok-version-in-None : goal.returns-in_ok-version-in-None
returns-in_ok-version-in-None c =
    dropped (history c.args.journal.now.changes) c.args.id c.in_ok-version-in-None.version (sym c.in-None.ensures.refusal) c.in_ok-version-in-None.ensures.version
    ∙ ap (λ (h : List histories.Change). (Dropped c.args.id c.in_ok-version-in-None.version, h)) (sym c.in_ok-version-in-None.ensures.history)
