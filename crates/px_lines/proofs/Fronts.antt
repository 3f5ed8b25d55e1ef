-- A piece written front by front.
use Rattle.std.proofs.Common.{◌≡◌, ◌≤◌, ℕ, ◌+◌, ◌-◌, List, ◌++◌, length, take, drop, Option, subst, sym, ◌∙◌, ap, arith, length-drop}
use Rattle.std.proofs.lemmas.List.{take_rest}
use Rattle.std.proofs.Math.Seq.{take-add}
use Rattle.px_io.specs.Flows.{AddsTo}
use Rattle.px_io.proofs.Flowing.{adds_both}

-- a front, and then a front of the rest
pub adds_more : (held middle after : Option (List ℕ)) (piece : List ℕ) (at count : ℕ) → AddsTo held (take at piece) middle →
    AddsTo middle (take count (take (length piece - at) (drop at piece))) after → AddsTo held (take (at + count) piece) after
adds_more held middle after piece at count p q =
    let joined : take at piece ++ take count (take (length piece - at) (drop at piece)) ≡ take (at + count) piece =
    ap (λ rest. take at piece ++ take count rest) (take_rest piece at) ∙ sym (take-add at count piece) in
    let P : List ℕ → Type 0 = λ written. AddsTo held written after in subst P joined (adds_both held middle after _ _ p q)

-- a front of the rest ends within the piece
pub ends_within : (piece : List ℕ) (at count : ℕ) → at ≤ length piece → count ≤ length (take (length piece - at) (drop at piece)) →
    at + count ≤ length piece
ends_within piece at count h k =
    let k' : count ≤ length piece - at = rw (sym (length-drop at piece), sym (ap length (take_rest piece at))) k in omega arith
