use Rattle.px_hub.specs.OpenCalls.{HasLeft}
use Rattle.px_hub.proofs.Entering.{err_then, left_entered}
use Rattle.px_hub.proofs.entrance.begin_at.Goals as goal

pub returns-in-Entered-clause-memory : goal.returns-in-Entered-clause-memory
returns-in-Entered-clause-memory c =
    let e = c.in-Entered.ensures.answer in
    let v = c.args.seat.now.view in
    let m = c.enter.new.seat.view in
    let w = c.begin_inside.new.seat.view in
    err_then (HasLeft m w) (HasLeft v w) c.begin_inside.result (left_entered c.args.bank c.args.version e.0 v m w e.1) c.begin_inside.ensures.memory
