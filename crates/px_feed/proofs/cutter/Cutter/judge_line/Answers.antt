-- Between documents a line is judged for itself.
use Rattle.std.proofs.Common.{◌∙◌, ◌+◌, ◌++◌, ◌∷◌, [], ap, sym, subst, length}
use Rattle.px_reader.proofs.Feeding.{count_none}
use Rattle.px_feed.specs.Cutting.{Fails}
use Rattle.px_feed.proofs.Cuttings.{stands_outside}
use Rattle.px_feed.proofs.Faults.{line_fails_outside}
use Rattle.px_feed.proofs.cutter.Cutter.judge_line.Goals as goal

pub returns-in-Err-clause-cuts : goal.returns-in-Err-clause-cuts
returns-in-Err-clause-cuts c = λ lines given s may.
    let none = count_none (length c.args.self.now.document) c.is_empty.result c.is_empty.ensures c.if-not-is_empty.false in
    let outside = stands_outside c.args.self.now.document lines given s none in
    subst (λ failure. Fails (lines ++ c.args.line.now ∷ []) given failure) (sym c.of_line.ensures)
    (line_fails_outside lines c.args.line.now given c.next_line.result c.in-Err.fault outside.leads may.1 c.in-Err.ensures (c.next_line.ensures ∙ ap (λ n. n + 1) may.0))
