use Rattle.std.proofs.Common.{◌≡◌, ◌-◌, ◌≤◌, [], length}
use Rattle.px_jobs.specs.Jobs.{AreNew}
use Rattle.px_jobs.proofs.jobs_line.Jobs.create.Given as goal

abbrev pub invariant-loop : goal.invariant-loop
invariant-loop g l =
    (l.giver ≡ record { line = l.jobs; parts = 66 - l.counter; given = [] }) × (length l.all.items ≡ l.counter) × (l.takers ≤ l.all.cap) × (l.takers ≤ 65) × AreNew l.jobs l.all.items
