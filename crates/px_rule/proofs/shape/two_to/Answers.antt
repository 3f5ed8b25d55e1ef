use Rattle.std.proofs.Common.{◌≤◌, ◌^◌, ℕ, arith}
use Rattle.std.proofs.Math.Pow.{pow_mono}
use Rattle.px_rule.proofs.shape.two_to.Goals as goal

pub returns-clause-bounds : goal.returns-clause-bounds
returns-clause-bounds c =
    let n : ℕ = 2 ^ c.args.bits in
    let low : 16 ≤ n = pow_mono {i = 4} {j = c.args.bits} c.requires.bits.0 in
    let high : n ≤ 1048576 = pow_mono {i = c.args.bits} {j = 20} c.requires.bits.1 in (omega arith, omega arith)
