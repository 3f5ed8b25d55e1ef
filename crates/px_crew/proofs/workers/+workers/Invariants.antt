use Rattle.std.proofs.Common.{length, ◌+◌, ◌-◌, ◌*◌}
use Rattle.px_crew.proofs.workers.+workers.Given as goal

abbrev pub decreases-run_halves-one : goal.decreases-run_halves-one
decreases-run_halves-one g l = 3 * length l.front.now + 1

abbrev pub decreases-run_halves-two : goal.decreases-run_halves-two
decreases-run_halves-two g l = 3 * length l.back.now + 1

abbrev pub decreases-run_halves : goal.decreases-run_halves
decreases-run_halves g l = 3 * (length l.front.now + length l.back.now) - 1

abbrev pub decreases-run_crew : goal.decreases-run_crew
decreases-run_crew g l = 3 * length l.states.now
