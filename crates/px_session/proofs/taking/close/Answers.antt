use Rattle.std.proofs.Common.{sym, subst}
use Rattle.std.specs.Prelude.{Err}
use Rattle.px_hub.specs.declared.reply.FilterCallFault.{FilterCallFault}
use Rattle.px_hub.specs.Replying.{Filters}
use Rattle.px_session.proofs.taking.close.Goals as goal

pub take_end-requires : goal.take_end-requires
take_end-requires g c = c.requires

pub finish-requires : goal.finish-requires
finish-requires g c =
    let r = c.requires in
    (r.0, r.1, c.in-Ok.ensures.ends r.0 r.1 r.2 r.3)

pub returns-in-Ok : goal.returns-in-Ok
returns-in-Ok g c = λ v bytes given runs. c.finish.ensures v bytes (c.in-Ok.ensures.ends v bytes given runs)

pub give_up-requires : goal.give_up-requires
give_up-requires g c =
    let r = c.requires in
    (r.0, r.1, c.in-Err.ensures.stops r.0 r.1 r.2 r.3)

pub returns-in-Err : goal.returns-in-Err
returns-in-Err g c = λ v bytes given runs.
    subst (λ (a : FilterCallFault). Filters g.N.HubName.table.shape v c.give_up.new.pass bytes (Err a)) (sym c.give_up.ensures.same) (c.give_up.ensures.refuses v bytes (c.in-Err.ensures.stops v bytes given runs))
