-- What is behind them stands at the front.
use Rattle.std.proofs.Common.{◌≡◌, ◌-◌, length, take, drop, ap, ◌∙◌, arith}
use Rattle.std.specs.List.{copy_within}
use Rattle.std.proofs.lemmas.List.{take_at}
use Rattle.px_reader.proofs.Buffered.{moved}
use Rattle.px_reader.proofs.lines.cut_front.Goals as goal

pub returns : goal.returns
returns c =
    let bytes = c.args.bytes.now.items in
    let count = c.args.count in
    let moved_to = c.copy_within.new.self in
    let n : c.len-end.result ≡ length bytes = omega arith in
    let m : length moved_to ≡ c.args.bytes.now.len = c.copy_within.ensures.len ∙ c.as_mut_slice.ensures.len in
    let held = take_at moved_to (drop (length moved_to) bytes) c.args.bytes.now.len m in
    let copied : moved_to ≡ copy_within bytes count (length bytes) 0 =
    c.copy_within.ensures.after ∙ ap (λ bs. copy_within bs count c.len-end.result 0) c.as_mut_slice.ensures.value ∙ ap (λ k. copy_within bytes count k 0) n in
    c.truncate.ensures.items ∙ ap (take (c.len-end.result - count)) (held ∙ copied) ∙ ap (λ k. take (k - count) (copy_within bytes count (length bytes) 0)) n ∙ moved bytes count c.requires
