use Rattle.px_jobs.proofs.Under.{under_next}
use Rattle.px_jobs.proofs.tests.give.Goals as goal

pub returns-clause-above : goal.returns-clause-above
returns-clause-above g c =
    under_next c.give.result c.args.giver.now.given c.give.new.giver.given (record { number = c.args.number; load = tt }) c.give.ensures.given c.requires.above
