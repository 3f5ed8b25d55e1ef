use Rattle.std.proofs.Common.{◌≡◌, ◌-◌, ◌%◌}
use Rattle.px_rule.specs.Words.{nodes_of}
use Rattle.px_rule.proofs.words.node_turn.Given as goal

abbrev pub invariant-loop-rest : goal.invariant-loop-rest
invariant-loop-rest l = l.rest % (nodes_of l.shape - 1) ≡ l.fn.number % (nodes_of l.shape - 1)

abbrev pub decreases-loop-rest : goal.decreases-loop-rest
decreases-loop-rest l = l.rest
