use Rattle.std.proofs.Common.{◌≡◌, take}
use Rattle.px_step.proofs.Accepted.{all_ids}
use Rattle.px_step.proofs.accepting.ids_of.Given as goal

abbrev pub invariant-loop-state : goal.invariant-loop-state
invariant-loop-state l = l.ids.items ≡ all_ids l.program.firsts (take l.state-index l.state-items)
