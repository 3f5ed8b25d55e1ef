use Rattle.std.proofs.Common.{◌≡◌, ◌≤◌}
use Rattle.std.specs.Prelude.{length}
use Rattle.px_post.proofs.tests.put_hundred.Given as goal

abbrev pub invariant-loop : goal.invariant-loop
invariant-loop g l = (l.exit.feeder ≡ l.feeder) × (length l.exit.put ≡ l.done) × (l.done ≤ 100)
