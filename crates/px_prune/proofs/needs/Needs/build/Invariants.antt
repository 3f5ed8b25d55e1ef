use Rattle.std.proofs.Common.{◌≡◌}
use Rattle.px_afa.specs.Truth.{state_at}
use Rattle.px_prune.specs.Needing.{rows_below, path_need}
use Rattle.px_prune.proofs.needs.Needs.build.Given as goal

abbrev pub invariant-loop-n : goal.invariant-loop-n
invariant-loop-n l = l.needs ≡ rows_below l.n (λ n. path_need l.program.states (state_at l.program.states n))
