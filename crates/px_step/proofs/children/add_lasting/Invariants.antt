use Rattle.std.proofs.Common.{◌≡◌, ◌++◌, filter, take}
use Rattle.px_step.specs.Popping.{lasts}
use Rattle.px_step.proofs.children.add_lasting.Given as goal

abbrev pub invariant-loop-n : goal.invariant-loop-n
invariant-loop-n l = l.given.items ≡ l.fn.given.items ++ filter (lasts l.program.states l.label) (take l.n-index l.n-items)
