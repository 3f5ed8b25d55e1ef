use Rattle.std.proofs.Common.{◌-◌, length, map}
use Rattle.px_pool.specs.Working.{Going, IsLeast, number_of}
use Rattle.px_pool.proofs.worker.Round.answer_all.Given as goal

abbrev pub invariant-loop-least : goal.invariant-loop-least
invariant-loop-least g l =
    Going g.N.HubName.table.shape l.self.docs.now l.self.draws.now l.initial.pass l.initial.drawer l.answers.items l.pass l.drawer
    × IsLeast l.least (map number_of l.answers.items)

abbrev pub decreases-loop-least : goal.decreases-loop-least
decreases-loop-least g l = length l.self.docs.now - l.least
