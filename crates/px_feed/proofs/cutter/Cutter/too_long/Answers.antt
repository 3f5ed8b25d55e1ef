-- The line is too long, or its document too big with it.
use Rattle.std.proofs.Common.{◌≡◌, ◌∙◌, ◌++◌, ◌∷◌, [], ◌+◌, ap, sym, subst, true, false}
use Rattle.px_feed.specs.Cutting.{Fails}
use Rattle.px_feed.proofs.Faults.{line_long_fails, too_big_fails}
use Rattle.px_feed.proofs.cutter.Cutter.too_long.Goals as goal

pub returns-then-leaves_room : goal.returns-then-leaves_room
returns-then-leaves_room c = λ lines given line h same fits.
    subst (λ failure. Fails (lines ++ line ∷ []) given failure) (sym c.at.ensures)
    (line_long_fails c.args.self.now.document lines line given c.next_line-number.result c.args.count h.standing same c.requires fits
    (λ some. c.leaves_room.ensures.inside some c.if-leaves_room.true) (c.next_line-number.ensures ∙ ap (λ n. n + 1) h.counts))

pub returns : goal.returns
returns c = λ lines given line h same fits.
    subst (λ failure. Fails (lines ++ line ∷ []) given failure) (sym c.at-2.ensures)
    (too_big_fails c.args.self.now.document lines line given c.next_line-number.result c.args.count h.standing same fits
    (λ none. let t : true ≡ false = sym (c.leaves_room.ensures.outside none) ∙ c.if-leaves_room.false in absurd (cc))
    (c.leaves_room.ensures.beyond c.if-leaves_room.false) (c.next_line-number.ensures ∙ ap (λ n. n + 1) h.counts))
