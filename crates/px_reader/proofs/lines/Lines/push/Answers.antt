-- A piece more: up to its last line feed its lines are whole.
use Rattle.std.proofs.Common.{◌≡◌, ◌+◌, ◌++◌, [], true, length, take, drop, ap, sym, ◌∙◌, subst, append_assoc, arith, IsUtf8}
use Rattle.std.proofs.lemmas.List.{length-drop, length-take-le, take-append-drop}
use Rattle.px_reader.specs.Lines.{has_no_feed, is_whole}
use Rattle.px_reader.specs.Buffers.{kept, Keeps, IsUnread}
use Rattle.px_reader.proofs.Feeds.{feed_none}
use Rattle.px_reader.proofs.Buffered.{cut_whole, ended_whole, behind_last, none_ready}
use Rattle.px_reader.proofs.Pushed.{unread_begun, keep_adds, whole_adds, ends_long}
use Rattle.px_reader.proofs.lines.Lines.push.Goals as goal

pub keep-requires-clause-feed : goal.keep-requires-clause-feed
keep-requires-clause-feed c = feed_none c.args.piece.now c.in_default.ensures

pub returns-in_default-clause-ok : goal.returns-in_default-clause-ok
returns-in_default-clause-ok c = λ unread u.
    let mid = c.settle.new.self in
    let v = c.settle.ensures.unread unread u in
    let part = c.args.piece.now in
    keep_adds mid.bytes.items mid.at mid.whole mid.lost c.keep.new.self v.begun part unread v.unread_is v.keeps mid.ordered mid.within (feed_none part c.in_default.ensures)
    c.in_ok-keep.ensures.same.0 c.in_ok-keep.ensures.same.1 c.in_ok-keep.ensures.kept c.in_ok-keep.ensures.lost

pub returns-then-self-gt0-clause-err : goal.returns-then-self-gt0-clause-err
returns-then-self-gt0-clause-err c = λ unread u.
    let mid = c.settle.new.self in
    let k = unread_begun mid unread (none_ready mid.bytes.items mid.at mid.whole c.settle.ensures.front.0 c.settle.ensures.front.1) (c.settle.ensures.unread unread u) in
    let s : c.begun_size.result ≡ length (kept mid) + mid.lost = c.begun_size.ensures.size ∙ ap (λ n. n + mid.lost) (sym (length-drop mid.whole mid.bytes.items)) in
    ends_long unread c.args.piece.now (kept mid) mid.lost c.begun_size.result c.line_length.result k c.if-self-gt0.true s c.line_length.ensures.line
    (length-take-le c.line_length.result c.args.piece.now c.line_length.ensures.within.1)

pub invariant_of-self-2 : goal.invariant_of-self-2
invariant_of-self-2 c =
    let mid = c.settle.new.self in
    let bytes = c.extend_from_slice.new.self.items in
    let found = c.in-Some.ensures in
    let joined : bytes ≡ mid.bytes.items ++ take (c.in-Some.feed + 1) c.args.piece.now = c.in_ok-extend_from_slice.ensures.items ∙ ap (λ bs. mid.bytes.items ++ bs) c.split_at.ensures.front in
    let whole : is_whole bytes ≡ true = ap is_whole joined ∙ ended_whole mid.bytes.items c.args.piece.now c.in-Some.feed found.0.high found.1 in
    let n : c.len-self.result ≡ length bytes = omega arith in
    let k = cut_whole bytes mid.at c.len-self.result c.are_text-self.result c.settle.ensures.front.0 n whole (λ t. subst IsUtf8 c.as_slice.ensures.value (c.are_text-self.ensures.text t)) in
    record { ordered = k.ordered; within = k.within; counted = (let l = mid.counted in let m : c.len-self.result ≡ length bytes = n in omega arith); ended = k.ended; begun = k.begun; text = k.text }

pub keep-requires-2-clause-feed : goal.keep-requires-2-clause-feed
keep-requires-2-clause-feed c =
    let found = c.in-Some.ensures in
    ap has_no_feed c.split_at.ensures.back ∙ behind_last c.args.piece.now c.in-Some.feed found.0.after

pub returns-clause-ok : goal.returns-clause-ok
returns-clause-ok c = λ unread u.
    let mid = c.settle.new.self in
    let bytes = c.extend_from_slice.new.self.items in
    let whole = c.len-self.result in
    let front = c.split_at.result.0.now in
    let back = c.split_at.result.1.now in
    let found = c.in-Some.ensures in
    let k = unread_begun mid unread (none_ready mid.bytes.items mid.at mid.whole c.settle.ensures.front.0 c.settle.ensures.front.1) (c.settle.ensures.unread unread u) in
    let at_front : Keeps mid.bytes.items mid.lost unread = subst (λ n. Keeps (drop n mid.bytes.items) mid.lost unread) c.settle.ensures.front.1 k in
    let n : whole ≡ length bytes = omega arith in
    let none : mid.lost ≡ 0 = omega arith in
    let (there, keeps) = whole_adds unread front mid.bytes.items bytes mid.lost mid.at whole at_front none c.in_ok-extend_from_slice.ensures.items c.settle.ensures.front.0 n in
    let parts : front ++ back ≡ c.args.piece.now = ap (λ bs. bs ++ back) c.split_at.ensures.front ∙ ap (λ bs. take (c.in-Some.feed + 1) c.args.piece.now ++ bs) c.split_at.ensures.back ∙ take-append-drop (c.in-Some.feed + 1) c.args.piece.now in
    let same : (unread ++ front) ++ back ≡ unread ++ c.args.piece.now = append_assoc unread front back ∙ ap (λ bs. unread ++ bs) parts in
    subst (IsUnread c.keep-2.new.self) same
    (keep_adds bytes mid.at whole mid.lost c.keep-2.new.self [] back (unread ++ front) there keeps (omega arith) (omega arith) (ap has_no_feed c.split_at.ensures.back ∙ behind_last c.args.piece.now c.in-Some.feed found.0.after)
    c.in_ok-keep-2.ensures.same.0 c.in_ok-keep-2.ensures.same.1 c.in_ok-keep-2.ensures.kept c.in_ok-keep-2.ensures.lost)
