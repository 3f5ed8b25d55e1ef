-- The ids before this one are taken in.
use Rattle.std.proofs.Common.{◌≡◌, ◌+◌, length, sum, take}
use Rattle.px_parallel.proofs.sums.Sums.add_all.Given as goal

abbrev pub invariant-loop-id : goal.invariant-loop-id
invariant-loop-id l = record {
  matches : l.self.matches ≡ l.initial.self.matches + length (take l.id-index l.ids);
  sum_is : l.self.sum ≡ l.initial.self.sum + sum (take l.id-index l.ids);
}
