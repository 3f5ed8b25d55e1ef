-- More bytes of the line that has begun.
use Rattle.std.proofs.Common.{◌≡◌, ◌-◌, ◌++◌, length, take, ap, ◌∙◌, subst, sym, arith}
use Rattle.px_reader.proofs.Buffered.{Cut, cut_more, feedless_front, min_take, kept_count}
use Rattle.px_reader.proofs.lines.Lines.keep.Goals as goal

pub invariant_of-self : goal.invariant_of-self
invariant_of-self c =
    let old = c.args.self.now in
    let k = subst (λ bs. Cut bs old.at old.whole old.is_text) (sym c.in_err-extend_from_slice.ensures.items) (record { ordered = old.ordered; within = old.within; ended = old.ended; begun = old.begun; text = old.text }) in
    record { ordered = k.ordered; within = k.within; counted = (let e = ap length c.in_err-extend_from_slice.ensures.items in let l = old.counted in omega arith); ended = k.ended; begun = k.begun; text = k.text }

pub invariant_of-self-2 : goal.invariant_of-self-2
invariant_of-self-2 c =
    let old = c.args.self.now in
    let part = c.args.part.now in
    let k = cut_more old.bytes.items (take c.min-end.result part) c.extend_from_slice.new.self.items old.at old.whole old.is_text c.in_ok-extend_from_slice.ensures.items
    (feedless_front c.min-end.result part c.requires.feed) (record { ordered = old.ordered; within = old.within; ended = old.ended; begun = old.begun; text = old.text }) in
    record { ordered = k.ordered; within = k.within; counted = kept_count old.bytes.items part c.extend_from_slice.new.self.items old.whole old.lost c.saturating_sub-room.result c.min-end.result old.within c.min-end.ensures c.in_ok-extend_from_slice.ensures.items c.requires.room; ended = k.ended; begun = k.begun; text = k.text }

pub returns-clause-kept : goal.returns-clause-kept
returns-clause-kept c =
    let old = c.args.self.now in
    let l : c.len.result ≡ length old.bytes.items = omega arith in
    let room : c.saturating_sub-room.result ≡ 1_048_579 - (length old.bytes.items - old.whole) = c.saturating_sub-room.ensures ∙ ap (λ n. 1_048_579 - (n - old.whole)) l in
    c.in_ok-extend_from_slice.ensures.items ∙ ap (λ n. old.bytes.items ++ take n c.args.part.now) c.min-end.ensures ∙ ap (λ bs. old.bytes.items ++ bs) (min_take c.saturating_sub-room.result c.args.part.now)
    ∙ ap (λ n. old.bytes.items ++ take n c.args.part.now) room
