use Rattle.std.proofs.Common.{refl}
use Rattle.px_session.proofs.taking.give.Goals as goal

pub advance_all-requires : goal.advance_all-requires
advance_all-requires g c = c.requires

pub returns-in-Ok-clause-ok : goal.returns-in-Ok-clause-ok
returns-in-Ok-clause-ok g c = c.in-Ok.ensures.ok

pub returns-in-Err-clause-memory : goal.returns-in-Err-clause-memory
returns-in-Err-clause-memory g c = λ v given h few. (c.in-Err.ensures.memory v given h few, refl)
