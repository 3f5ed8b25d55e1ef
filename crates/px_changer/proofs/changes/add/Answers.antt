-- The filter is added, and the others are told.
use Rattle.std.proofs.Common.{sym, subst}
use Rattle.px_feed.specs.Items.{Adding}
use Rattle.px_hub.specs.Passes.{PassView}
use Rattle.px_lines.specs.Replying.{Answered}
use Rattle.px_changer.specs.Telling.{told}
use Rattle.px_changer.proofs.Replied.{add_replied, add_keeps, every_kept, ok_then, own_then}
use Rattle.px_changer.proofs.changes.add.Goals as goal

pub tell-requires-clause-every : goal.tell-requires-clause-every
tell-requires-clause-every g c =
    let v = c.args.first.now in
    let w = c.subscribe-outcome.new.pass in
    every_kept g.N.HubName.passes v w c.args.others.now (add_keeps c.args.text.now v w c.subscribe-outcome.result c.subscribe-outcome.ensures) c.requires.alone.every

pub returns-clause-line : goal.returns-clause-line
returns-clause-line g c =
    let v = c.args.first.now in
    let w = c.subscribe-outcome.new.pass in
    let now = c.tell.new.first in
    let same = c.in_ok-tell.ensures.same in
    let own = own_then g.N.HubName.passes w now c.tell.new.others same c.in_ok-tell.ensures.alone in
    ok_then c.line_of_add.result c.line_of_add.ensures (λ line is.
    subst (λ (p : PassView). Answered (Adding c.args.text.now) (told v) (told p) line) (sym same)
    (add_replied c.args.text.now v w c.subscribe-outcome.result line c.subscribe-outcome.ensures own is))
