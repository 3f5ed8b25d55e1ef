use Rattle.std.proofs.Common.{◌≡◌, ◌+◌, length}
use Rattle.px_post.specs.Sending.{Moves}
use Rattle.px_post.proofs.pushing.put_all.Given as goal

abbrev pub invariant-loop : goal.invariant-loop
invariant-loop g l = record {
  moves : Moves l.feeder l.number l.initial.slips.items l.initial.left.items l.slips.items l.left.items;
  long : length l.left.items + l.counter ≡ l.end;
}
