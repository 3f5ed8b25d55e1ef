use Rattle.std.proofs.Common.{sym, ◌∙◌, refl}
use Rattle.px_session.proofs.Staged.{runs, on_ok, on_fault, not_err, stopped_with, refused_on}
use Rattle.px_session.proofs.taking.go_on.Goals as goal

pub take-requires : goal.take-requires
take-requires g c =
    let r = c.requires in
    let m = runs g.N.HubName.table r.0 c.args.pass.now c.args.reader.now c.args.stage c.in-Ok.call r.1 c.in-Ok.is r.2 in
    (r.0, r.1, m.0, m.1)

pub returns-in-Ok-clause-ok : goal.returns-in-Ok-clause-ok
returns-in-Ok-clause-ok g c =
    on_ok g.N.HubName.table c.args.pass.now c.take.new.pass c.args.reader.now c.take.new.reader c.args.stage c.take.result c.in-Ok.call c.args.piece.now c.in-Ok.is c.take.ensures

pub returns-in-Ok-clause-fault : goal.returns-in-Ok-clause-fault
returns-in-Ok-clause-fault g c =
    on_fault g.N.HubName.table c.args.pass.now c.take.new.pass c.args.reader.now c.take.new.reader c.args.stage c.take.result c.in-Ok.call c.args.piece.now c.in-Ok.is c.take.ensures

pub returns-in-Ok-clause-stays : goal.returns-in-Ok-clause-stays
returns-in-Ok-clause-stays g c = λ fault is. absurd (not_err c.in-Ok.call fault (sym c.in-Ok.is ∙ is))

pub returns-in-Err-clause-fault : goal.returns-in-Err-clause-fault
returns-in-Err-clause-fault g c = λ v bytes follows.
    record {
      stopped = refl;
      refused = refused_on g.N.HubName.table.shape v c.args.pass.now bytes c.args.piece.now c.in-Err.fault
          (stopped_with g.N.HubName.table v c.args.pass.now c.args.reader.now c.args.stage c.in-Err.fault bytes c.in-Err.is follows);
    }

pub returns-in-Err-clause-stays : goal.returns-in-Err-clause-stays
returns-in-Err-clause-stays g c = λ fault is. sym c.in-Err.is ∙ is
