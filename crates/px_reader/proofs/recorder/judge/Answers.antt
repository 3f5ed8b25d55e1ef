-- The line that was taken is the whole line.
use Rattle.std.proofs.Common.{Ok, Some, length, IsUtf8, sym, subst}
use Rattle.px_reader.specs.Scanned.{line_to}
use Rattle.px_reader.specs.Scanning.{QuickTakes, JudgesLine}
use Rattle.px_reader.proofs.Recording.{one_ended}
use Rattle.px_reader.proofs.recorder.judge.Goals as goal

pub returns-in-Some-clause-judged : goal.returns-in-Some-clause-judged
returns-in-Some-clause-judged c =
    let piece = c.args.piece.now in
    let at = c.args.at in
    let old = c.args.scanner.now in
    let new = c.quick.new.self in
    let taken = c.in-Some.taken in
    let fit = c.requires.text c.if-not-is_text.false in
    let q : QuickTakes piece at old (Some taken) new = subst (λ o. QuickTakes piece at old o new) c.in-Some.is c.in_ok-taken.ensures.ok in
    let end = one_ended piece at taken.end q.0 q.1 q.2 fit.0 in
    let judged : JudgesLine piece old (line_to piece at taken.end) (Ok taken.told) new = q.4 (subst (λ e. IsUtf8 (line_to piece at e)) (sym end) fit.1) in
    subst (λ told. JudgesLine piece old (line_to piece at (length piece)) (Ok told) new) (sym c.told.ensures)
    (subst (λ e. JudgesLine piece old (line_to piece at e) (Ok taken.told) new) end judged)
