-- Where words stand is below their number.
use Rattle.std.proofs.Common.{◌≡◌, ◌<◌, ◌≤◌, ◌+◌, ◌*◌, ℕ, suc, arith, ap, ◌∙◌, mul-le-mul_right, suc-mul}
use Rattle.px_rule.specs.declared.shape.Shape.{Shape}
use Rattle.px_rule.specs.Words.{size_of, words_of, place_at}

pub bank_within : (k : ℕ) (z : Shape) (words : ℕ) → words ≡ words_of z → k < z.banks → k + 1 < words
bank_within k z words sized below = let n : ℕ = z.banks * size_of z in let e : words ≡ suc (z.banks + n) = sized in omega arith

pub one_more : (s z : Shape) (k p : ℕ) → s ≡ z → 1 + (s.banks + k * size_of s + p) ≡ place_at z k p
one_more s z k p e = (let n : ℕ = s.banks + k * size_of s + p in let r : 1 + n ≡ suc n = omega arith in r) ∙ ap (λ (x : Shape). place_at x k p) e

pub place_within : (z : Shape) (k p words : ℕ) → words ≡ words_of z → k < z.banks → p < size_of z → 1 + (z.banks + k * size_of z + p) < words
place_within z k p words sized below low =
    let l : suc k * size_of z ≤ z.banks * size_of z = mul-le-mul_right (size_of z) below in
    let x : ℕ = k * size_of z in let y : ℕ = z.banks * size_of z in let n : ℕ = size_of z in
    let t : suc k * size_of z ≡ x + n = suc-mul k (size_of z) in
    let e : words ≡ suc (z.banks + y) = sized in
    let l' : suc k * size_of z ≤ y = l in let low' : p < n = low in
    let r : 1 + (z.banks + x + p) < words = omega arith in r

pub some_word : (z : Shape) (words : ℕ) → words ≡ words_of z → 0 < words
some_word z words sized = let n : ℕ = z.banks + z.banks * size_of z in let e : words ≡ suc n = sized in omega arith
