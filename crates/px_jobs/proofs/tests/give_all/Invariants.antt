use Rattle.std.proofs.Common.{◌≡◌, ◌+◌}
use Rattle.px_jobs.specs.Jobs.{AllUnder}
use Rattle.px_jobs.proofs.tests.give_all.Given as goal

abbrev pub invariant-loop-before : goal.invariant-loop-before
invariant-loop-before g l = (l.giver.line ≡ l.jobs) × (l.giver.parts ≡ l.initial.giver.parts) × AllUnder (l.before + 1) l.giver.given
