-- The last line is cut.
use Rattle.std.proofs.Common.{◌∙◌, ◌++◌, ◌+◌, ◌<◌, ◌≤◌, ap, sym, subst, length, arith}
use Rattle.px_reader.specs.Lines.{lines_of}
use Rattle.px_feed.specs.Cutting.{EndsBy}
use Rattle.px_feed.specs.Items.{bytes_in, most_bytes}
use Rattle.px_feed.proofs.Joinings.{ends_joined, ends_long, kept_whole, begun_fits}
use Rattle.px_feed.proofs.joiner.Joiner.finish.Goals as goal

pub returns-then-self : goal.returns-then-self
returns-then-self c = λ bytes given j.
    let old = c.args.self.now in
    let some : 0 < length j.begun = let l = c.if-self.true in let e = j.count_is in omega arith in
    ends_long _ _ _ old.kept.items old.begun bytes given c.too_long.result j some
    (c.too_long.ensures (lines_of j.ended) given j.begun j.cut (sym j.count_is) (begun_fits _ _ _ old.kept.items old.begun bytes given j old.within))

pub returns : goal.returns
returns c = λ bytes given j.
    let old = c.args.self.now in
    let whole = c.as_slice.ensures.value ∙ kept_whole _ _ _ old.kept.items old.begun bytes given j c.if-self.false in
    let fits = subst (λ n. bytes_in (lines_of j.ended) + n ≤ most_bytes) (j.count_is ∙ sym (ap length whole)) (begun_fits _ _ _ old.kept.items old.begun bytes given j old.within) in
    ends_joined c.finish-answer.result _ _ _ old.kept.items old.begun bytes given j
    (subst (λ bs. EndsBy c.finish-answer.result (lines_of j.ended ++ lines_of bs) given) whole (c.finish-answer.ensures (lines_of j.ended) given j.cut fits))
