-- The lines are all, and the last one has no line feed or is none.
use Rattle.std.proofs.Common.{◌∙◌, ◌++◌, ◌∷◌, [], ◌+◌, Err, ap, sym, subst, append-nil, length}
use Rattle.std.proofs.lemmas.List.{nil_from_length}
use Rattle.px_reader.specs.Lines.{lines_of}
use Rattle.px_reader.proofs.Feeding.{count_none, count_some}
use Rattle.px_reader.proofs.LineCuts.{open_line}
use Rattle.px_feed.specs.Cutting.{EndsBy, MayCome}
use Rattle.px_feed.specs.Items.{Gives, AtEnd}
use Rattle.px_feed.proofs.Cuttings.{has_begun, stands_outside}
use Rattle.px_feed.proofs.Faults.{line_fails_outside, line_ends_outside}
use Rattle.px_feed.proofs.Leading.{ended}
use Rattle.px_feed.proofs.cutter.Cutter.finish.Goals as goal

pub returns-then-not-is_empty : goal.returns-then-not-is_empty
returns-then-not-is_empty c = λ lines given h fits.
    let line = c.args.line.now in
    let s = h.standing in
    let some = count_some (length c.args.self.now.document) c.is_empty.result c.is_empty.ensures c.if-not-is_empty.true in
    let answer = c.end_document.ensures s.before s.inside given s.stands c.requires
    (λ none. absurd (has_begun c.args.self.now.document s.before s.inside given s.stands some none)) (subst (λ ls. MayCome c.args.self.now ls line) s.lines_are (h.counts, fits)) in
    subst (λ ls. EndsBy c.end_document.result (ls ++ lines_of line) given) (sym s.lines_are) answer

pub returns-then-is_empty : goal.returns-then-is_empty
returns-then-is_empty c = λ lines given h fits.
    let none = count_none (length c.args.self.now.document) c.is_empty.result c.is_empty.ensures c.if-not-is_empty.false in
    let empty = nil_from_length c.args.line.now (count_none (length c.args.line.now) c.is_empty-2.result c.is_empty-2.ensures c.if-is_empty.true) in
    let outside = stands_outside c.args.self.now.document lines given h.standing none in
    subst (λ ls. Gives [] ls given AtEnd) (sym (ap (λ line. lines ++ lines_of line) empty ∙ append-nil lines)) (ended lines given outside.leads)

pub returns-in-Ok : goal.returns-in-Ok
returns-in-Ok c = λ lines given h fits.
    let line = c.args.line.now in
    let none = count_none (length c.args.self.now.document) c.is_empty.result c.is_empty.ensures c.if-not-is_empty.false in
    let some = count_some (length line) c.is_empty-2.result c.is_empty-2.ensures c.if-is_empty.false in
    let outside = stands_outside c.args.self.now.document lines given h.standing none in
    subst (λ ls. EndsBy c.follow_last.result (lines ++ ls) given) (sym (open_line line c.requires some))
    (c.follow_last.ensures lines given outside c.requires some c.in-Ok.ensures (h.counts, fits))

pub returns-in-Err : goal.returns-in-Err
returns-in-Err c = λ lines given h fits.
    let line = c.args.line.now in
    let none = count_none (length c.args.self.now.document) c.is_empty.result c.is_empty.ensures c.if-not-is_empty.false in
    let some = count_some (length line) c.is_empty-2.result c.is_empty-2.ensures c.if-is_empty.false in
    let outside = stands_outside c.args.self.now.document lines given h.standing none in
    let fails = line_fails_outside lines line given c.next_line.result c.in-Err.fault outside.leads fits c.in-Err.ensures (c.next_line.ensures ∙ ap (λ n. n + 1) h.counts) in
    subst (λ ls. EndsBy (Err c.of_line.result) (lines ++ ls) given) (sym (open_line line c.requires some))
    (subst (λ failure. EndsBy (Err failure) (lines ++ line ∷ []) given) (sym c.of_line.ensures)
    (line_ends_outside lines line given c.next_line.result c.in-Err.fault fails))
