-- The first has made all that it has seen.
use Rattle.std.proofs.Common.{sym, ap, ◌∙◌, subst}
use Rattle.px_hub.specs.Calls.{seen_of}
use Rattle.px_hub.specs.Passes.{PassView}
use Rattle.px_changer.specs.Alone.{HoldEvery, AllMet}
use Rattle.px_changer.proofs.Meetings.{is_alone}
use Rattle.px_changer.proofs.notes.tell.Goals as goal

pub returns-in-Ok-clause-alone : goal.returns-in-Ok-clause-alone
returns-in-Ok-clause-alone g c =
    let same = c.meet_all.ensures.same in
    let first = c.meet_all.new.first in
    let r = c.requires in
    let every = subst (λ (p : PassView). HoldEvery g.N.HubName.passes p.number c.args.others.now) (sym same) r.every in
    let met = subst (λ (p : PassView). AllMet (seen_of p) c.args.others.now c.meet_all.new.others) (sym same) ((c.in-Ok.ensures {u = tt}).met) in
    is_alone g.N.HubName.passes first c.args.others.now c.meet_all.new.others (ap (λ (p : PassView). p.is_open) same ∙ r.first_closed) r.closed r.idle every
    c.version.ensures.of_passes c.version.ensures.legal met
