use Rattle.std.proofs.Common.{[], ◌++◌}
use Rattle.px_session.proofs.taking.take.Goals as goal

pub take_piece-requires : goal.take_piece-requires
take_piece-requires g c = c.requires

pub returns-in-Ok : goal.returns-in-Ok
returns-in-Ok g c = c.in-Ok.ensures.on

pub give_up-requires : goal.give_up-requires
give_up-requires g c =
    let r = c.requires in
    (r.0, (r.1 ++ c.args.piece.now) ++ [], c.in-Err.ensures.stops r.0 r.1 r.2 r.3 [])

pub returns-in-Err : goal.returns-in-Err
returns-in-Err g c = λ v bytes given runs rest. c.give_up.ensures.refuses v ((bytes ++ c.args.piece.now) ++ rest) (c.in-Err.ensures.stops v bytes given runs rest)
