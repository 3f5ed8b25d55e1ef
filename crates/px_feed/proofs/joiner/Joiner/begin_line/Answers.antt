-- A line begins, or goes on.
use Rattle.std.proofs.Common.{◌≡◌, ◌∙◌, ◌++◌, ◌-◌, ◌<◌, ap, sym, subst, length, take, refl, true, arith}
use Rattle.std.proofs.lemmas.Result.{err_from_is_err_and}
use Rattle.px_reader.specs.Lines.{has_no_feed}
use Rattle.px_feed.specs.Joining.{FailsOn}
use Rattle.px_feed.proofs.Joinings.{fails_begun, part_long, part_fits, joins_part, bytes_with, kept_length, no_feeds, no_feed_front, some_more}
use Rattle.px_feed.proofs.joiner.Joiner.begin_line.Goals as goal

pub returns-then-count-room-clause-joins : goal.returns-then-count-room-clause-joins
returns-then-count-room-clause-joins c = λ bytes given j.
    let old = c.args.self.now in
    let part = c.args.part.now in
    let some : 0 < length (j.begun ++ part) = some_more (c.room.result - old.begun) j.begun part c.if-count-room.true in
    subst (λ bs. FailsOn bs given c.too_much.result) (sym (bytes_with _ _ _ old.kept.items old.begun bytes part given j))
    (fails_begun j.ended (j.begun ++ part) given c.too_much.result j.whole (no_feeds j.begun part j.no_feed c.requires) some
    (λ more. c.too_much.ensures _ given ((j.begun ++ part) ++ more) j.cut (part_long _ _ _ old.kept.items old.begun bytes part more given c.room.result j c.room.ensures c.if-count-room.true)))

pub returns-in_err-keep-clause-joins : goal.returns-in_err-keep-clause-joins
returns-in_err-keep-clause-joins c = λ bytes given j.
    let answer = err_from_is_err_and c.from_residual.result c.from_residual.ensures.1 in
    rw (answer.1, answer.2) tt

pub invariant_of-self-2 : goal.invariant_of-self-2
invariant_of-self-2 c =
    let old = c.args.self.now in
    let part = c.args.part.now in
    let kept = c.in_ok-keep.ensures.kept in
    record {
      unended = subst (λ bs. has_no_feed bs ≡ true) (sym kept) (no_feeds old.kept.items (take _ part) old.unended (no_feed_front _ part c.requires));
      held = ap length kept ∙ kept_length 1_048_578 old.begun old.kept.items part old.held;
      within = let r = c.room.ensures in let f = c.if-count-room.false in let w = old.within in omega arith;
    }

pub returns-clause-joins : goal.returns-clause-joins
returns-clause-joins c = λ bytes given j.
    let old = c.args.self.now in
    let part = c.args.part.now in
    let fits = part_fits _ _ _ old.kept.items old.begun bytes part given c.room.result j c.room.ensures old.within c.if-count-room.false in
    joins_part _ _ _ old.kept.items _ old.begun _ bytes part given j c.requires c.in_ok-keep.ensures.kept refl fits
