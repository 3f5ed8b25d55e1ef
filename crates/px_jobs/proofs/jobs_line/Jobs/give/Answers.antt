use Rattle.std.proofs.Common.{sym, ap}
use Rattle.px_jobs.specs.Jobs.{Giving}
use Rattle.px_jobs.proofs.Ordered.{gave}
use Rattle.px_jobs.proofs.jobs_line.Jobs.give.Goals as goal

pub returns-clause-given : goal.returns-clause-given
returns-clause-given g c =
    gave c.self.inside.line.capacity c.give.result c.giver.inside.gives.knows c.give.new.seat.knows c.args.job c.args.giver.now.given
    (sym (ap (λ (v : Giving _). v.given) c.giver.view_is)) c.self.invariant c.giver.invariant.1 c.give.ensures.given
