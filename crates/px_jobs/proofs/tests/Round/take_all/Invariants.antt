use Rattle.std.proofs.Common.{◌≡◌}
use Rattle.px_jobs.proofs.tests.Round.take_all.Given as goal

abbrev pub invariant-loop : goal.invariant-loop
invariant-loop g l = l.taker.line ≡ l.self.jobs.now
