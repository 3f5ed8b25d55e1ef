use Rattle.std.proofs.Common.{◌≡◌, ◌++◌, map, take}
use Rattle.px_afa.specs.declared.state.Related.{Related}
use Rattle.px_step.proofs.values.add_if.Given as goal

abbrev pub invariant-loop-entry : goal.invariant-loop-entry
invariant-loop-entry l = l.states.items ≡ l.fn.states.items ++ map (λ (entry : Related). entry.state) (take l.entry-index l.entries)
