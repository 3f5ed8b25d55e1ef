use Rattle.px_session.proofs.taking.finish.Goals as goal

pub finish-requires : goal.finish-requires
finish-requires g c =
    let r = c.requires in
    let e = r.2 in
    record { whole = (r.0, e.0, e.2) }

pub returns-in-Ok : goal.returns-in-Ok
returns-in-Ok g c = λ v bytes e. (e.0, e.1, c.in-Ok.ensures.reply v e.0 e.2)

pub returns-in-Err : goal.returns-in-Err
returns-in-Err g c = λ v bytes e. c.in-Err.ensures.memory v e.0 e.2
