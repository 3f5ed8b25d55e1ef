use Rattle.std.proofs.Common.{◌≡◌, length, take}
use Rattle.px_afa.specs.Building.{newest}
use Rattle.px_afa.specs.Kept.{AreGuards}
use Rattle.px_afa.proofs.guarding.guards.Given as goal

abbrev pub invariant-loop-n : goal.invariant-loop-n
invariant-loop-n l = record {
  count : length l.guards.items ≡ l.n;
  are : AreGuards l.guards.items (newest (take l.n l.states));
}
