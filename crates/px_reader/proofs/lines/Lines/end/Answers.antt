-- Up to the first line feed of the whole lines.
use Rattle.std.proofs.Common.{◌≡◌, ◌-◌, ◌≤◌, true, false, length, take, drop, ap, sym, ◌∙◌, subst, arith}
use Rattle.std.proofs.lemmas.List.{length-take-le}
use Rattle.px_reader.specs.Lines.{has_no_feed, is_ended}
use Rattle.px_reader.specs.Buffers.{ready}
use Rattle.px_reader.proofs.Buffered.{whole_has_feed, line_ready, ready_size}
use Rattle.px_reader.proofs.lines.Lines.end.Goals as goal

pub line_length-requires : goal.line_length-requires
line_length-requires c =
    let old = c.args.self.now in
    let n = ready_size old.bytes.items old.at old.whole old.within in
    let w = length-take-le old.whole old.bytes.items old.within in
    let q = c.requires in
    subst (λ bs. has_no_feed (take (old.whole - old.at) (drop old.at bs)) ≡ false) (sym c.deref.ensures.value) (whole_has_feed (ready old) old.ended (omega arith))

pub returns-clause-line : goal.returns-clause-line
returns-clause-line c =
    let old = c.args.self.now in
    let count = c.line_length.result in
    let there : take (old.whole - old.at) (drop old.at c.deref.result.now) ≡ ready old = ap (λ bs. take (old.whole - old.at) (drop old.at bs)) c.deref.ensures.value in
    let e : is_ended (take count (ready old)) ≡ true = subst (λ bs. is_ended (take count bs) ≡ true) there c.line_length.ensures.line in
    let high : count ≤ length (ready old) = subst (λ bs. count ≤ length bs) there c.line_length.ensures.within.1 in
    let n = ready_size old.bytes.items old.at old.whole old.within in
    ap is_ended (line_ready old.bytes.items old.at count old.whole (omega arith) old.ordered) ∙ e
