use Rattle.std.proofs.Common.{◌≡◌, ◌-◌, arith}
use Rattle.px_text.proofs.Digits.{kept_below_one}
use Rattle.px_text.proofs.scan.NumberScan.size.Goals as goal

pub returns-clause-bounded : goal.returns-clause-bounded
returns-clause-bounded c =
    let below = kept_below_one c.args.self.now.fraction.value c.args.self.now.fraction.count c.args.self.now.fraction.capped c.args.self.now.fraction.bounded in
    let missing : c.from-missing.result ≡ 18 - c.args.self.now.fraction.count = omega (arith, c.from-missing.ensures, c.saturating_sub.ensures) in
    rw (c.from.ensures, c.from-2.ensures, c.from-3.ensures, c.pow.ensures, missing) (omega arith)
