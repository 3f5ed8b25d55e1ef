-- One half more.
use Rattle.std.proofs.Common.{◌≡◌, suc, ◌+◌, ◌∙◌, ap, sym, arith}
use Rattle.std.specs.Prelude.{◌/◌}
use Rattle.px_tiers.specs.Bytes.{halved}
use Rattle.px_tiers.proofs.Remembering.{halved_last}
use Rattle.px_tiers.proofs.planning.share_of.Goals as goal

pub loop-preserved : goal.loop-preserved
loop-preserved c =
    let times = c.loop.counter + 1 in
    let more : suc times ≡ times + 1 = omega arith in
    record { share = ap (λ n. n / 2) c.loop.invariant.share ∙ sym (halved_last 134_217_728 times) ∙ ap (halved 134_217_728) more }
