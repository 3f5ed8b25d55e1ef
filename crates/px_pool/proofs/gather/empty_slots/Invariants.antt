use Rattle.std.proofs.Common.{◌≡◌, length}
use Rattle.px_pool.proofs.gather.empty_slots.Given as goal

abbrev pub invariant-loop : goal.invariant-loop
invariant-loop l = (length l.slots.items ≡ l.counter) × (l.slots.cap ≡ l.initial.slots.cap)
