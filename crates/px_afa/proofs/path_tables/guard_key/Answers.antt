use Rattle.px_afa.proofs.PathKeeping.{guard_within}
use Rattle.px_afa.proofs.path_tables.guard_key.Goals as goal

pub returns-in-Path-clause-within : goal.returns-in-Path-clause-within
returns-in-Path-clause-within c = λ states are. guard_within states c.in-Path.body c.body_guard.result (c.body_guard.ensures.it states are)
