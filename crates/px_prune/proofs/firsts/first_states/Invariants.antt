use Rattle.std.proofs.Common.{◌≡◌, map, take}
use Rattle.px_afa.specs.declared.state.First.{First}
use Rattle.px_prune.proofs.firsts.first_states.Given as goal

abbrev pub invariant-loop-first : goal.invariant-loop-first
invariant-loop-first l = l.states.items ≡ map (λ (f : First). f.state) (take l.first-index l.first-items)
