use Rattle.std.proofs.Common.{◌≡◌, ◌+◌, ◌-◌, ◌≤◌, [], length}
use Rattle.px_crew.specs.Drawn.{hand}
use Rattle.px_pool.specs.Working.{IsFresh}
use Rattle.px_crew.specs.Crews.{AllReady}
use Rattle.px_pool.proofs.batches.equip.Given as goal

abbrev pub invariant-loop : goal.invariant-loop
invariant-loop l =
    (l.whole.table ≡ l.draws.table) × (l.whole.hand ≡ hand (l.count - l.counter + 1) [] 0)
    × (length l.workers.items ≡ l.counter) × (l.count ≤ l.workers.cap) × AllReady (IsFresh l.draws) l.workers.items
