use Rattle.std.proofs.Common.{◌∙◌, sym, ap}
use Rattle.px_jobs.specs.Jobs.{Ending}
use Rattle.px_jobs.proofs.Ordered.{took_rest}
use Rattle.px_jobs.proofs.jobs_line.Jobs.take_rest.Goals as goal

pub returns-clause-taken : goal.returns-clause-taken
returns-clause-taken g c =
    took_rest c.take.result c.rest.inside.seat.knows c.take.new.seat.knows c.args.rest.now.given c.args.rest.now.taken
    (sym (ap (λ (v : Ending _). v.given) c.rest.view_is)) (sym (ap (λ (v : Ending _). v.taken) c.rest.view_is))
    (ap (λ (v : Ending _). v.parts) c.rest.view_is ∙ c.requires.whole) c.rest.invariant.1 c.take.ensures.taken
