use Rattle.std.proofs.Common.{◌≡◌, take, filter, not, nat_eq}
use Rattle.px_afa.specs.Truth.{state_at}
use Rattle.px_afa.specs.Tables.{own_class}
use Rattle.px_step.proofs.values.unequal.Given as goal

abbrev pub invariant-loop-n : goal.invariant-loop-n
invariant-loop-n l = l.others.items ≡ filter (λ n. not (nat_eq l.class (own_class l.program.states (state_at l.program.states n)))) (take l.n-index l.n-items)
