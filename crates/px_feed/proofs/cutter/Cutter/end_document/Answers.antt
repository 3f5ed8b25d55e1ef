-- The document ends with the lines, or shows its fault.
use Rattle.std.proofs.Common.{◌∙◌, ◌++◌, Err, ap, sym, subst}
use Rattle.px_reader.specs.Lines.{lines_of}
use Rattle.px_reader.specs.Records.{RefusesEnd}
use Rattle.px_reader.specs.Verdicts.{HasVerdict, IsTree}
use Rattle.px_feed.specs.Cutting.{EndsBy}
use Rattle.px_feed.proofs.Cuttings.{ends_tree, all_lines}
use Rattle.px_feed.proofs.Faults.{ends_fault}
use Rattle.px_feed.proofs.cutter.Cutter.end_document.Goals as goal

pub returns-in-Ok : goal.returns-in-Ok
returns-in-Ok c = λ before inside given s no_feed may come.
    let line = c.args.line.now in
    let same = ap (λ bs. bs ++ line) s.recorded.bytes_are in
    let (root, v) = c.in-Ok.ensures.tree in
    ends_tree c.args.self.now.document before inside line given c.in-Ok.doc root s no_feed may come.1 (subst (λ bs. HasVerdict bs (IsTree root)) same v) (c.in-Ok.ensures.doc ∙ same)

pub returns-in-Err : goal.returns-in-Err
returns-in-Err c = λ before inside given s no_feed may come.
    let lines = before ++ lines_of inside in
    let line = c.args.line.now in
    let n = c.lines_with-number.result in
    let count = all_lines lines line c.args.self.now.extent.lines n no_feed come.0 c.lines_with-number.ensures.none c.lines_with-number.ensures.some in
    subst (λ failure. EndsBy (Err failure) (lines ++ lines_of line) given) (sym c.of_line.ensures)
    (ends_fault c.args.self.now.document before inside line given c.in-Err.fault n s no_feed may come.1 count
    (subst (λ bs. RefusesEnd bs line c.in-Err.fault) s.recorded.bytes_are c.in-Err.ensures.fault))
