use Rattle.std.proofs.Common.{ap, sym}
use Rattle.px_session.specs.Taking.{told}
use Rattle.px_session.proofs.taking.told.Goals as goal

pub returns-in-Ok : goal.returns-in-Ok
returns-in-Ok g c = sym (ap told c.in-Ok.is)

pub returns-in-Err : goal.returns-in-Err
returns-in-Err g c = sym (ap told c.in-Err.is)
