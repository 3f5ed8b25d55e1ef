use Rattle.std.proofs.Common.{◌≡◌, ◌||◌, ℕ, take, ◌+◌, ◌*◌}
use Rattle.std.specs.List.{list_any}
use Rattle.px_text.specs.Sets.{has}
use Rattle.px_afa.specs.Sets.{needs}
use Rattle.px_step.proofs.Parts.{past_parts}
use Rattle.px_prune.proofs.rows.+needing.Given as goal

abbrev pub decreases-add_needs : goal.decreases-add_needs
decreases-add_needs l = 2 * l.n + 1

abbrev pub decreases-add_part_needs : goal.decreases-add_part_needs
decreases-add_part_needs l = 2 * past_parts l.parts.now

abbrev pub invariant-add_part_needs-loop-part : goal.invariant-add_part_needs-loop-part
invariant-add_part_needs-loop-part l = (k : ℕ) → has l.needed.items k ≡ (has l.fn.needed.items k || list_any (λ p. needs l.program.states p k) (take l.part-index l.parts))
