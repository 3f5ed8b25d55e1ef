use Rattle.std.proofs.Common.{◌≡◌, ◌++◌, List, length}
use Rattle.px_pool.specs.declared.worker.Answer.{Answer}
use Rattle.px_pool.specs.Placing.{Placed, AllWithin}
use Rattle.px_pool.proofs.gather.place.Given as goal

abbrev pub invariant-loop-answer : goal.invariant-loop-answer
invariant-loop-answer l =
    (l.fn.answers.items ≡ l.yielded ++ l.answer-iterator.rest.items)
    × (length l.slots.items ≡ length l.fn.slots.items)
    × AllWithin (length l.slots.items) l.answer-iterator.rest.items
    × ((before : List Answer) → Placed l.fn.slots.items before → Placed l.slots.items (before ++ l.yielded))
