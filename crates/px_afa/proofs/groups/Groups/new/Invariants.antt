use Rattle.std.proofs.Common.{◌≡◌, ℕ, [], length}
use Rattle.px_afa.specs.Lists.{lists_of, row}
use Rattle.px_afa.proofs.groups.Groups.new.Given as goal

abbrev pub invariant-loop : goal.invariant-loop
invariant-loop l = record {
  count : length l.rows.items ≡ l.counter;
  empty : (key : ℕ) → row (lists_of l.rows.items) key ≡ [];
}
