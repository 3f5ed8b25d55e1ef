-- The members of the sets so far.
use Rattle.std.proofs.Common.{◌≡◌, ℕ, take}
use Rattle.px_text.specs.Sets.{has}
use Rattle.px_runner.specs.Operands.{AreBelow}
use Rattle.px_machine.specs.Unpruned.{has_in}
use Rattle.px_machine.proofs.sets.members_of.Given as goal

abbrev pub invariant-loop-n : goal.invariant-loop-n
invariant-loop-n l = record {
  members : (k : ℕ) → has l.all.items k ≡ has_in l.sets.lists (take l.n-index l.numbers) k;
  small : AreBelow 1048576 l.all.items;
}
