-- The ids are those of the filters that match.
use Rattle.px_serial.proofs.Noting.{matched_line}
use Rattle.px_serial.proofs.filtering.line_of_document.Goals as goal

pub returns-clause-line : goal.returns-clause-line
returns-clause-line c = λ root is.
    matched_line c.args.journal.now.changes root c.version.result c.in_ok-ids.ids c.version.ensures.version (c.in_ok-ids.ensures.ids root is)
