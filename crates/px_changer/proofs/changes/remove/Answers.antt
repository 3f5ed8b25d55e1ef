-- The id is named, or none is.
use Rattle.std.proofs.Common.{Some, None, refl}
use Rattle.px_feed.specs.Outputs.{AsksDrop}
use Rattle.px_changer.proofs.Replied.{ok_then}
use Rattle.px_changer.proofs.changes.remove.Goals as goal

pub returns-in-Some-clause-line : goal.returns-in-Some-clause-line
returns-in-Some-clause-line g c = ok_then c.remove_named.result c.remove_named.ensures.line (λ line replies. (AsksDrop (Some c.in-Some.id), c.in-Some.ensures.id, replies))

pub returns-in-None-clause-line : goal.returns-in-None-clause-line
returns-in-None-clause-line g c = (AsksDrop None, c.in-None.ensures.id, refl)
