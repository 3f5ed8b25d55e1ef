use Rattle.std.proofs.Common.{◌≤◌, ◌+◌, length}
use Rattle.px_tree.proofs.Building.{IsLeft}
use Rattle.px_tree.proofs.from_events.+build.Given as goal

abbrev pub decreases-read_children : goal.decreases-read_children
decreases-read_children l = length l.events.now + length l.events.now

abbrev pub decreases-read_element : goal.decreases-read_element
decreases-read_element l = length l.events.now + length l.events.now + 1

abbrev pub invariant-read_children-loop-event : goal.invariant-read_children-loop-event
invariant-read_children-loop-event l = IsLeft l.events l.children l.behind × (length l.behind ≤ length l.events)

abbrev pub decreases-read_children-loop-event : goal.decreases-read_children-loop-event
decreases-read_children-loop-event l = length l.behind
