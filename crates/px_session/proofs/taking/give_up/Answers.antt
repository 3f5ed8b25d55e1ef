use Rattle.px_session.proofs.Read.{refused, is_open}
use Rattle.px_session.proofs.taking.give_up.Goals as goal

pub abandon-requires : goal.abandon-requires
abandon-requires g c =
    let r = c.requires in
    record { begun = (r.0, is_open g.N.HubName.table r.0 c.args.pass.now c.args.call r.1 c.args.fault r.2) }

pub returns-clause-same : goal.returns-clause-same
returns-clause-same g c = c.as_answer.ensures

pub returns-clause-refuses : goal.returns-clause-refuses
returns-clause-refuses g c = λ v bytes up. refused g.N.HubName.table v c.args.pass.now c.abandon.new.pass c.args.call bytes c.args.fault c.abandon.ensures.stays c.abandon.ensures.wrote up
