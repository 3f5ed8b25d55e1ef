-- One byte too many.
use Rattle.std.proofs.Common.{◌∙◌, ◌++◌, ◌∷◌, [], ◌+◌, ◌≤◌, ap, sym, subst}
use Rattle.px_feed.specs.Cutting.{Fails}
use Rattle.px_feed.specs.Items.{most_bytes}
use Rattle.px_feed.proofs.Faults.{long_fails}
use Rattle.px_feed.proofs.cutter.Cutter.too_much.Goals as goal

pub returns : goal.returns
returns c = λ lines given line h long.
    let fits = subst (λ n. n ≤ most_bytes) h.sizes c.args.self.now.extent.bounded in
    subst (λ failure. Fails (lines ++ line ∷ []) given failure) (sym c.at.ensures)
    (long_fails c.args.self.now.document lines line given c.next_line.result h.standing fits long (c.next_line.ensures ∙ ap (λ n. n + 1) h.counts))
