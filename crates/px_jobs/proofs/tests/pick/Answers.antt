use Rattle.px_jobs.proofs.Takers.{takers_last}
use Rattle.px_jobs.proofs.tests.pick.Goals as goal

pub returns-in-Some-clause-new : goal.returns-in-Some-clause-new
returns-in-Some-clause-new c = (takers_last _ _ _ _ c.in-Some.ensures.items c.requires.new).0

pub returns-in-Some-clause-taker : goal.returns-in-Some-clause-taker
returns-in-Some-clause-taker c = (takers_last _ _ _ _ c.in-Some.ensures.items c.requires.new).1
