use Rattle.std.proofs.Common.{◌≡◌, ◌++◌, ◌+◌, ◌≤◌, map, length}
use Rattle.std.specs.Prelude.{Some}
use Rattle.px_pool.specs.Placing.{IsFull}
use Rattle.px_pool.proofs.gather.take_all.Given as goal

abbrev pub invariant-loop-slot : goal.invariant-loop-slot
invariant-loop-slot l =
    (l.fn.slots.items ≡ map Some l.replies.items ++ l.slot-iterator.rest.items)
    × IsFull l.slot-iterator.rest.items
    × (length l.replies.items + length l.slot-iterator.rest.items ≤ l.replies.cap)
