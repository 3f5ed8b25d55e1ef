-- The id is named, or none is.
use Rattle.std.proofs.Common.{Some, None}
use Rattle.px_feed.specs.Outputs.{AsksReplace}
use Rattle.px_changer.specs.Telling.{told}
use Rattle.px_changer.proofs.Replied.{ok_then}
use Rattle.px_changer.proofs.changes.replace.Goals as goal

pub returns-in-Some-clause-line : goal.returns-in-Some-clause-line
returns-in-Some-clause-line g c =
    ok_then c.replace_named.result c.replace_named.ensures.line (λ line a. (let (parsed, is, replies) = a in (AsksReplace (Some c.in-Some.id) parsed, (c.in-Some.ensures.id, is), replies)))

pub returns-in-None-clause-line : goal.returns-in-None-clause-line
returns-in-None-clause-line g c =
    ok_then c.unknown.result (c.unknown.ensures (told c.args.first.now)) (λ line a. (let (parsed, is, replies) = a in (AsksReplace None parsed, (c.in-None.ensures.id, is), replies)))
