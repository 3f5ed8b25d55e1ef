use Rattle.std.proofs.Common.{◌≡◌}
use Rattle.px_jobs.proofs.tests.take_in_order.Given as goal

abbrev pub invariant-loop-before : goal.invariant-loop-before
invariant-loop-before g l = l.taker.line ≡ l.jobs
