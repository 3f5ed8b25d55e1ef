use Rattle.std.proofs.Common.{◌≡◌, ◌≤◌, ◌<◌, length, drop, ◌+◌, ◌*◌, ◌-◌}
use Rattle.px_rule.specs.Words.{nodes_of}
use Rattle.px_rule.specs.Table.{bank_in, version_in}
use Rattle.px_rule.specs.Known.{KeptSet}
use Rattle.std.specs.Prelude.{take}
use Rattle.px_rule.specs.Kept.{Grew}
use Rattle.px_intern.specs.Answers.{StaysSound, WroteNodes}
use Rattle.px_intern.proofs.sets.intern_rising.Given as goal

abbrev pub invariant-loop-left : goal.invariant-loop-left
invariant-loop-left g l = (let u = l.initial.seat.view in let v = l.seat.view in
    (l.seat.table ≡ l.initial.seat.table) × Grew u v × (l.left ≤ length l.elements) × (l.number < 1048576)
    × KeptSet (nodes_of l.shared.shape) (g.L.Law.right (take (version_in u.stay.place) v.past.seen)) v.touch.kept (bank_in u.stay.place) (version_in u.stay.place) l.number (drop l.left l.elements)
    × StaysSound g.L.Law.right l.shared.shape u v × WroteNodes g.L.Law.right l.shared.shape l.elements u v
    × (v.touch.touches ≤ u.touch.touches + 128 * (length l.elements - l.left)))

abbrev pub decreases-loop-left : goal.decreases-loop-left
decreases-loop-left g l = l.left
