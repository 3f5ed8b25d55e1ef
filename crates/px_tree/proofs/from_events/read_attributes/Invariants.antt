use Rattle.std.proofs.Common.{◌≡◌, ◌≤◌, ◌++◌, length}
use Rattle.px_tree.specs.Events.{attributes_of, behind_attributes}
use Rattle.px_tree.proofs.from_events.read_attributes.Given as goal

abbrev pub invariant-loop-behind : goal.invariant-loop-behind
invariant-loop-behind l =
    (attributes_of l.events ≡ l.attributes ++ attributes_of l.behind) × (behind_attributes l.events ≡ behind_attributes l.behind)
    × (length l.behind ≤ length l.events)

abbrev pub decreases-loop-behind : goal.decreases-loop-behind
decreases-loop-behind l = length l.behind
