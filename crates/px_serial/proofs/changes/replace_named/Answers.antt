use Rattle.std.proofs.Common.{List, ap, refl, sym, ◌∙◌}
use Rattle.px_feed.specs.declared.line.OutLine.TheVariants.{Replaced}
use Rattle.px_workload.specs.Changes.{history}
use Rattle.px_xpath.specs.Histories as histories
use Rattle.px_xpath.specs.Whole.{filter as way_of}
use Rattle.px_serial.proofs.changes.replace_named.Goals as goal
use Rattle.px_serial.proofs.Changing.{replace_refused, replaced}

pub returns-in-Some : goal.returns-in-Some
returns-in-Some c = replace_refused (history c.args.journal.now.changes) (way_of c.args.filter) c.args.id c.in-Some.refusal c.refused_replacement.result c.in-Some.ensures.refusal c.refused_replacement.ensures.line

pub accept-requires : goal.accept-requires
accept-requires c = record { legal = c.in-None.ensures.legal refl }

pub returns-in_ok-version-in-None : goal.returns-in_ok-version-in-None
returns-in_ok-version-in-None c =
    replaced (history c.args.journal.now.changes) (way_of c.args.filter) c.args.id c.in_ok-version-in-None.version (sym c.in-None.ensures.refusal) c.in_ok-version-in-None.ensures.version
    ∙ ap (λ (h : List histories.Change). (Replaced c.args.id c.in_ok-version-in-None.version, h)) (sym c.in_ok-version-in-None.ensures.history)
