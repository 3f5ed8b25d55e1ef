use Rattle.std.proofs.Common.{◌≡◌, ◌∙◌, ap, arith, length}
use Rattle.px_afa.specs.Truth.{state_at}
use Rattle.px_prune.specs.Needing.{rows_below, path_need}
use Rattle.px_prune.proofs.needs.Needs.build.Goals as goal

pub returns : goal.returns
returns c =
    let all : c.loop-n.n ≡ length c.args.program.now.states = omega (arith, c.states-n-end.ensures.count) in
    record { needs = c.loop-n.invariant ∙ ap (λ z. rows_below z (λ n. path_need c.args.program.now.states (state_at c.args.program.now.states n))) all }
