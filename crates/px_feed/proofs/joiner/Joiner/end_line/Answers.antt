-- A line ends.
use Rattle.std.proofs.Common.{◌≡◌, ◌∙◌, ◌++◌, ◌∷◌, [], ◌+◌, ◌<◌, ◌≤◌, ap, sym, subst, length, take, append-nil, length-append, true, refl, arith}
use Rattle.std.proofs.lemmas.List.{nil_from_length}
use Rattle.std.proofs.lemmas.Result.{err_from_is_err_and}
use Rattle.px_reader.specs.Lines.{lines_of, is_ended}
use Rattle.px_feed.specs.Cutting.{CutBy}
use Rattle.px_feed.specs.Items.{bytes_in, most_bytes}
use Rattle.px_feed.specs.Joining.{FailsOn, GivesBy, TakenBy}
use Rattle.px_feed.proofs.Joinings.{fails_line, part_long, part_fits, bytes_with, ended_more, joins_line, kept_whole, line_fits, take_none}
use Rattle.px_feed.proofs.joiner.Joiner.end_line.Goals as goal

pub returns-then-count-room-clause-joins : goal.returns-then-count-room-clause-joins
returns-then-count-room-clause-joins c = λ bytes given j.
    let old = c.args.self.now in
    let part = c.args.part.now in
    let long = subst (λ bs. most_bytes < bytes_in (lines_of j.ended) + length bs) (append-nil (j.begun ++ part))
    (part_long _ _ _ old.kept.items old.begun bytes part [] given c.room.result j c.room.ensures c.if-count-room.true) in
    subst (λ bs. FailsOn bs given c.too_much.result) (sym (bytes_with _ _ _ old.kept.items old.begun bytes part given j))
    (fails_line j.ended (j.begun ++ part) given c.too_much.result j.whole (ended_more j.begun part j.no_feed c.requires)
    (c.too_much.ensures (lines_of j.ended) given (j.begun ++ part) j.cut long))

pub returns-then-self-eq0-clause-joins : goal.returns-then-self-eq0-clause-joins
returns-then-self-eq0-clause-joins c = λ bytes given j.
    let old = c.args.self.now in
    let part = c.args.part.now in
    let none = nil_from_length j.begun (sym j.count_is ∙ c.if-self-eq0.true) in
    let empty = j.kept_are ∙ ap (take 1_048_578) none in
    let same = j.bytes_are ∙ ap (λ bs. j.ended ++ bs) none ∙ append-nil j.ended in
    let fits = subst (λ bs. length (bs ++ part) ≤ most_bytes) same (part_fits _ _ _ old.kept.items old.begun bytes part given c.room.result j c.room.ensures old.within c.if-count-room.false) in
    subst (λ bs. GivesBy c.take_line.result (TakenBy c.take_line.new.self old.kept.items old.begun (bs ++ part)) (bs ++ part) given) (sym same)
    (joins_line c.take_line.result _ _ _ old.kept.items old.begun j.ended part given j.whole c.requires fits (empty ∙ take_none 1_048_578) c.if-self-eq0.true
    (c.take_line.ensures.cuts (lines_of j.ended) given j.cut))

pub returns-then-length-clause-joins : goal.returns-then-length-clause-joins
returns-then-length-clause-joins c = λ bytes given j.
    let old = c.args.self.now in
    let part = c.args.part.now in
    let fits = line_fits _ _ _ old.kept.items old.begun bytes given c.room.result (length part) j c.room.ensures old.within c.if-count-room.false in
    let same = length-append j.begun part ∙ ap (λ n. n + length part) (sym j.count_is) in
    subst (λ bs. FailsOn bs given c.too_long.result) (sym (bytes_with _ _ _ old.kept.items old.begun bytes part given j))
    (fails_line j.ended (j.begun ++ part) given c.too_long.result j.whole (ended_more j.begun part j.no_feed c.requires)
    (c.too_long.ensures (lines_of j.ended) given (j.begun ++ part) j.cut same fits))

pub returns-in_err-extend_from_slice-clause-joins : goal.returns-in_err-extend_from_slice-clause-joins
returns-in_err-extend_from_slice-clause-joins c = λ bytes given j.
    let answer = err_from_is_err_and c.from_residual.result c.from_residual.ensures.1 in
    rw (answer.1, answer.2) tt

pub take_line-answer-requires : goal.take_line-answer-requires
take_line-answer-requires c =
    let old = c.args.self.now in
    subst (λ bs. is_ended bs ≡ true) (sym (c.as_slice.ensures.value ∙ c.in_ok-extend_from_slice.ensures.items))
    (ended_more old.kept.items c.args.part.now old.unended c.requires)

pub returns-clause-joins : goal.returns-clause-joins
returns-clause-joins c = λ bytes given j.
    let old = c.args.self.now in
    let part = c.args.part.now in
    let small : old.begun ≤ 1_048_578 = let l = c.if-length.false in omega arith in
    let whole = kept_whole _ _ _ old.kept.items old.begun bytes given j small in
    let line = c.as_slice.ensures.value ∙ c.in_ok-extend_from_slice.ensures.items ∙ ap (λ bs. bs ++ part) whole in
    let same = bytes_with _ _ _ old.kept.items old.begun bytes part given j in
    let fits = subst (λ bs. length bs ≤ most_bytes) same (part_fits _ _ _ old.kept.items old.begun bytes part given c.room.result j c.room.ensures old.within c.if-count-room.false) in
    let cut = subst (λ l. CutBy c.take_line-answer.result c.take_line-answer.new.self (lines_of j.ended ++ l ∷ []) given) line (c.take_line-answer.ensures.cuts (lines_of j.ended) given j.cut) in
    subst (λ bs. GivesBy c.take_line-answer.result (TakenBy c.take_line-answer.new.self c.clear.new.self.items 0 bs) bs given) (sym same)
    (joins_line c.take_line-answer.result _ _ _ c.clear.new.self.items 0 j.ended (j.begun ++ part) given j.whole (ended_more j.begun part j.no_feed c.requires) fits c.clear.ensures.items refl cut)
