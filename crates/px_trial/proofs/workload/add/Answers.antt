-- The filter that was added is the one that the text writes.
use Rattle.std.proofs.lemmas.Result.{on_ok_weaker}
use Rattle.px_trial.proofs.workload.add.Goals as goal

pub returns-in-Ok-clause-ok : goal.returns-in-Ok-clause-ok
returns-in-Ok-clause-ok c = on_ok_weaker c.add_filter.result (λ added. (c.in-Ok.filter, c.in-Ok.ensures, added)) c.add_filter.ensures.ok
