use Rattle.px_crew.specs.Drawn.{MayDraw}
use Rattle.px_crew.proofs.tests.RoundCrewU64Basket.work.Given as goal

abbrev pub invariant-loop : goal.invariant-loop
invariant-loop l = MayDraw l.self.draws.now l.beside.drawer
