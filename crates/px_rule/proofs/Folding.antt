-- The remainder by one less than a power of two is that of the number's parts, added.
use Rattle.std.proofs.Common.{◌≡◌, ℕ, ◌+◌, ◌-◌, ◌*◌, ◌/◌, ◌%◌, ◌^◌, ◌<◌, ◌≤◌, ap, ◌∙◌, sym, arith}
use Rattle.std.proofs.lemmas.Nat.{shr_split}
use Rattle.std.proofs.Math.Nat.{mod-lt, mul-le-mul_left, mul-add-mod_self_right}
use mathlib.Core.Logic.{dite}
use native.Mathlib.Decide.{dec_lt}
use Rattle.std.proofs.Math.Pow.{pow_mono}

module _ (n bits : ℕ) (some_bits : 4 ≤ bits) where
  wide : 16 ≤ 2 ^ bits
  wide = pow_mono {i = 4} {j = bits} some_bits

  -- the number is its high part as often as one less than the power says, and both parts
  parts : n ≡ n / 2 ^ bits * (2 ^ bits - 1) + (n % 2 ^ bits + n / 2 ^ bits)
  parts =
      let high : ℕ = n / 2 ^ bits in
      let low : ℕ = n % 2 ^ bits in
      let base : ℕ = 2 ^ bits in
      let less : ℕ = base - 1 in
      let some_base : 16 ≤ base = wide in
      let base_is : base ≡ less + 1 = omega arith in
      let split : high * base + low ≡ n = shr_split n bits in
      let product : high * base ≡ high * (less + 1) = ap (λ (x : ℕ). high * x) base_is in
      omega (arith, product, split)

  pub same_remainder : (n % 2 ^ bits + n / 2 ^ bits) % (2 ^ bits - 1) ≡ n % (2 ^ bits - 1)
  same_remainder = sym (mul-add-mod_self_right (n / 2 ^ bits) (2 ^ bits - 1) (n % 2 ^ bits + n / 2 ^ bits)) ∙ ap (λ (x : ℕ). x % (2 ^ bits - 1)) (sym parts)

  pub sum_less : 2 ^ bits ≤ n → n % 2 ^ bits + n / 2 ^ bits < n
  sum_less large =
      let high : ℕ = n / 2 ^ bits in
      let low : ℕ = n % 2 ^ bits in
      let base : ℕ = 2 ^ bits in
      let some_base : 16 ≤ base = wide in
      let split : high * base + low ≡ n = shr_split n bits in
      let low_less : low < base = mod-lt n (omega arith) in
      let some_high : 0 < high = dite (dec_lt 0 high) (λ yes. yes) (λ none. absurd (let zero_high : high ≡ 0 = omega arith in let product : high * base ≡ 0 * base = ap (λ (x : ℕ). x * base) zero_high in omega arith)) in
      let more : high * 2 ≤ high * base = mul-le-mul_left high (omega arith) in
      omega arith
