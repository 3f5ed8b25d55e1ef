use Rattle.std.proofs.Common.{◌≡◌, ◌++◌, filter, take}
use Rattle.px_text.specs.Sets.{has}
use Rattle.px_step.specs.Popping.{is_given}
use Rattle.px_step.proofs.children.add_given.Given as goal

abbrev pub invariant-loop-n : goal.invariant-loop-n
invariant-loop-n l = l.given.items ≡ l.fn.given.items ++ filter (is_given l.program.states l.label (has l.set)) (take l.n-index l.states)
