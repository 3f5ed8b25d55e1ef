use Rattle.std.proofs.Common.{ap, sym, ◌∙◌, subst}
use Rattle.std.specs.Prelude.{Err}
use Rattle.px_hub.specs.declared.reply.FilterCallFault.{FilterCallFault}
use Rattle.px_hub.specs.Replying.{Filters}
use Rattle.px_session.specs.Sessions.{call_fault}
use Rattle.px_session.proofs.Staged.{runs, stopped_with, refused_now, not_err, err_same}
use Rattle.px_session.proofs.taking.conclude.Goals as goal

pub close-requires : goal.close-requires
close-requires g c =
    let i = c.requires in
    let m = runs g.N.HubName.table i.0 c.args.pass.now c.args.reader.now c.args.stage c.in-Ok.call i.1 c.in-Ok.is i.2 in
    (i.0, i.1, m.0, m.1)

pub returns-in-Ok-clause-answer : goal.returns-in-Ok-clause-answer
returns-in-Ok-clause-answer g c = λ v bytes follows.
    let m = runs g.N.HubName.table v c.args.pass.now c.args.reader.now c.args.stage c.in-Ok.call bytes c.in-Ok.is follows in
    c.close.ensures v bytes m.0 m.1

pub returns-in-Ok-clause-stopped : goal.returns-in-Ok-clause-stopped
returns-in-Ok-clause-stopped g c = λ fault stop. absurd (not_err c.in-Ok.call fault (sym c.in-Ok.is ∙ stop))

pub returns-in-Err-clause-answer : goal.returns-in-Err-clause-answer
returns-in-Err-clause-answer g c = λ v bytes follows.
    let z = g.N.HubName.table.shape in
    let r = stopped_with g.N.HubName.table v c.args.pass.now c.args.reader.now c.args.stage c.in-Err.fault bytes c.in-Err.is follows in
    subst (λ (a : FilterCallFault). Filters z v c.args.pass.now bytes (Err a)) (sym c.as_answer.ensures) (refused_now z v c.args.pass.now bytes c.in-Err.fault r)

pub returns-in-Err-clause-stopped : goal.returns-in-Err-clause-stopped
returns-in-Err-clause-stopped g c = λ fault stop. ap Err (c.as_answer.ensures ∙ ap call_fault (err_same c.args.stage c.in-Err.fault fault c.in-Err.is stop))
