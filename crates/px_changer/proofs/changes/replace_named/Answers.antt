-- The filter is replaced, and the others are told.
use Rattle.std.proofs.Common.{Some, sym, subst}
use Rattle.px_hub.specs.Passes.{PassView}
use Rattle.px_changer.specs.Telling.{told}
use Rattle.px_changer.specs.Lines.{AnsweredNamed}
use Rattle.px_changer.proofs.Replied.{every_kept, ok_then, own_then}
use Rattle.px_changer.proofs.PutIn.{put_replied, put_keeps}
use Rattle.px_changer.proofs.changes.replace_named.Goals as goal

pub tell-requires-clause-every : goal.tell-requires-clause-every
tell-requires-clause-every g c =
    let v = c.args.first.now in
    let w = c.replace-outcome.new.pass in
    every_kept g.N.HubName.passes v w c.args.others.now (put_keeps c.args.text.now c.args.id v w c.replace-outcome.result c.replace-outcome.ensures) c.requires.alone.every

pub returns-clause-line : goal.returns-clause-line
returns-clause-line g c =
    let v = c.args.first.now in
    let w = c.replace-outcome.new.pass in
    let now = c.tell.new.first in
    let same = c.in_ok-tell.ensures.same in
    let own = own_then g.N.HubName.passes w now c.tell.new.others same c.in_ok-tell.ensures.alone in
    ok_then c.line_of_replacement.result c.line_of_replacement.ensures (λ line is.
    subst (λ (p : PassView). AnsweredNamed (Some c.args.id) c.args.text.now (told v) (told p) line) (sym same)
    (put_replied c.args.text.now c.args.id v w c.replace-outcome.result line c.requires.alone.legal c.replace-outcome.ensures own is))
