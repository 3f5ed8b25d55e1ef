use Rattle.std.proofs.Common.{◌≡◌, false, take, ◌+◌, ◌*◌}
use Rattle.std.specs.List.{list_any}
use mathlib.Core.Bool.{beq}
use Rattle.px_text.specs.Sets.{has}
use Rattle.px_afa.specs.Sets.{true_in}
use Rattle.px_step.proofs.Parts.{past_parts}
use Rattle.px_step.proofs.truth.+truth.Given as goal

abbrev pub decreases-is_true : goal.decreases-is_true
decreases-is_true l = 2 * l.n + 1

abbrev pub decreases-some_part_is : goal.decreases-some_part_is
decreases-some_part_is l = 2 * past_parts l.parts.now

abbrev pub invariant-some_part_is-loop-part : goal.invariant-some_part_is-loop-part
invariant-some_part_is-loop-part l = list_any (λ p. beq (true_in l.program.states (has l.set) p) l.wanted) (take l.part-index l.parts) ≡ false
