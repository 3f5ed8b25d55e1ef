-- The filter is dropped, and the others are told.
use Rattle.std.proofs.Common.{Some, sym, subst}
use Rattle.px_feed.specs.Outputs.{AsksDrop}
use Rattle.px_hub.specs.Passes.{PassView}
use Rattle.px_lines.specs.Replying.{Replies}
use Rattle.px_changer.specs.Telling.{told}
use Rattle.px_changer.proofs.Replied.{drop_replied, drop_keeps, every_kept, ok_then, own_then}
use Rattle.px_changer.proofs.changes.remove_named.Goals as goal

pub tell-requires-clause-every : goal.tell-requires-clause-every
tell-requires-clause-every g c =
    let v = c.args.first.now in
    let w = c.unsubscribe-outcome.new.pass in
    every_kept g.N.HubName.passes v w c.args.others.now (drop_keeps c.args.id v w c.unsubscribe-outcome.result c.unsubscribe-outcome.ensures) c.requires.alone.every

pub returns-clause-line : goal.returns-clause-line
returns-clause-line g c =
    let v = c.args.first.now in
    let w = c.unsubscribe-outcome.new.pass in
    let now = c.tell.new.first in
    let same = c.in_ok-tell.ensures.same in
    let own = own_then g.N.HubName.passes w now c.tell.new.others same c.in_ok-tell.ensures.alone in
    ok_then c.line_of_drop.result c.line_of_drop.ensures (λ line is.
    subst (λ (p : PassView). Replies (AsksDrop (Some c.args.id)) (told v) (told p) line) (sym same)
    (drop_replied c.args.id v w c.unsubscribe-outcome.result line c.unsubscribe-outcome.ensures own is))
