-- Packed words.
use Rattle.std.proofs.Common.{◌≡◌, ℕ, ◌+◌, ◌-◌, ◌*◌, ◌%◌, ◌^◌, ◌<◌, ◌≤◌, ap, ◌∙◌, arith}
use Rattle.std.specs.Prelude.{bit_and}
use Rattle.std.proofs.lemmas.Nat.{and_block, and_mask}
use Rattle.px_rule.specs.Words.{mask, packed, version_of, building_of, count_of}

pub version_packed : (v b c : ℕ) → b ≤ 1 → c < 65536 → version_of (packed v b c) ≡ v
version_packed v b c hb hc = omega arith

pub building_packed : (v b c : ℕ) → b ≤ 1 → c < 65536 → building_of (packed v b c) ≡ b
building_packed v b c hb hc = omega arith

pub count_packed : (v b c : ℕ) → b ≤ 1 → c < 65536 → count_of (packed v b c) ≡ c
count_packed v b c hb hc = omega arith

pub added : (v b c : ℕ) → v < 1048576 → b ≤ 1 → c < 65535 → (packed v b c + 1) % 2 ^ 64 ≡ packed v b (c + 1)
added v b c hv hb hc = omega arith

pub taken : (v b c : ℕ) → v < 1048576 → b ≤ 1 → c < 65535 → (packed v b (c + 1) + (2 ^ 64 - 1)) % 2 ^ 64 ≡ packed v b c
taken v b c hv hb hc = omega arith

-- the building bit is taken away
pub published : (v c : ℕ) → v < 1048576 → c < 65536 → bit_and (packed v 1 c) mask ≡ packed v 0 c
published v c hv hc =
    let split : packed v 1 c ≡ v * 2 ^ 20 + (65536 + c) = omega arith in
    let low : bit_and (65536 + c) 65535 ≡ c = and_mask (65536 + c) 16 ∙ (let r : (65536 + c) % 2 ^ 16 ≡ c = omega arith in r) in
    let high : bit_and v 17592186044415 ≡ v = and_mask v 44 ∙ (let r : v % 2 ^ 44 ≡ v = omega arith in r) in
    let block = and_block 20 v 17592186044415 (65536 + c) 65535 (omega arith) (omega arith) in
    ap (λ (w : ℕ). bit_and w mask) split ∙ (block ∙ ((λ i. high i * 2 ^ 20 + low i) ∙ (let r : v * 2 ^ 20 + c ≡ packed v 0 c = omega arith in r)))
