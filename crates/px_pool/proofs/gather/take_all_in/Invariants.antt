use Rattle.std.proofs.Common.{◌≡◌, ◌++◌, length}
use Rattle.px_pool.specs.Gathering.{AllBrought, Gathered}
use Rattle.px_pool.proofs.gather.take_all_in.Given as goal

abbrev pub invariant-loop-worker : goal.invariant-loop-worker
invariant-loop-worker l =
    (l.fn.workers.items ≡ l.yielded ++ l.worker-iterator.rest.items)
    × (l.whole.table ≡ l.draws.table) × (length l.slots.items ≡ length l.fn.slots.items)
    × AllBrought l.draws (length l.slots.items) l.worker-iterator.rest.items
    × Gathered l.yielded l.whole.hand l.slots.items
