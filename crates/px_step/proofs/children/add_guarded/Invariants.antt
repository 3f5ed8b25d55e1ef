use Rattle.std.proofs.Common.{◌≡◌, ◌++◌, take}
use Rattle.px_text.specs.Sets.{has}
use Rattle.px_step.specs.Popping.{is_given, all_guarded}
use Rattle.px_step.proofs.children.add_guarded.Given as goal

abbrev pub invariant-loop-guard : goal.invariant-loop-guard
invariant-loop-guard l = l.given.items ≡ l.fn.given.items ++ all_guarded l.program.states (is_given l.program.states l.label (has l.set)) (take l.guard-index l.guard-items)
