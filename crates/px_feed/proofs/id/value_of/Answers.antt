use Rattle.std.proofs.Common.{ℕ, ◌+◌, ◌*◌, ◌^◌, ◌<◌, ◌≤◌, arith}
use Rattle.px_text.proofs.Digits.{digit_at, value_more, one_more_digit_below, power_at_most}
use Rattle.px_feed.proofs.id.value_of.Goals as goal

-- nine digits fit 32 bits
one_more_fits : (n i : ℕ) → n < 10 ^ i → i < 9 → n * 10 + 9 < 2 ^ 32
one_more_fits n i h l = let p : 10 ^ i ≤ 10 ^ 8 = power_at_most i 8 (omega arith) in omega arith

pub overflow_mul-value : goal.overflow_mul-value
overflow_mul-value c = let f = one_more_fits c.loop-digit.value c.loop-digit.digit-index c.loop-digit.invariant.1 (omega arith) in omega arith

pub overflow_add-value : goal.overflow_add-value
overflow_add-value c =
    let d = digit_at c.args.digits.now c.loop-digit.digit-index c.requires.digits c.loop-digit-test.true in
    let f = one_more_fits c.loop-digit.value c.loop-digit.digit-index c.loop-digit.invariant.1 (omega arith) in omega arith

pub loop-digit-preserved : goal.loop-digit-preserved
loop-digit-preserved c =
    let d = digit_at c.args.digits.now c.loop-digit.digit-index c.requires.digits c.loop-digit-test.true in
    let m = value_more c.args.digits.now c.loop-digit.digit-index c.loop-digit-test.true in
    let b = one_more_digit_below c.loop-digit.value c.loop-digit.digit-index _ c.loop-digit.invariant.1 d.1 in
    (omega (arith, c.loop-digit.invariant.0), omega arith)
