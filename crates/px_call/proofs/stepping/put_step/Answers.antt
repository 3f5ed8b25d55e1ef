use Rattle.px_rule.specs.Table.{bank_in, version_in}
use Rattle.px_call.proofs.Fillings.{put_stands, put_full}
use Rattle.px_call.proofs.stepping.put_step.Goals as goal

pub returns-in-Put-clause-puts : goal.returns-in-Put-clause-puts
returns-in-Put-clause-puts g c s h told =
    let v = c.args.seat.now.view in
    let i = c.in-Put.ensures.answer in
    put_stands g.L.Law.right c.args.shared.now.shape (bank_in v.stay.place) (version_in v.stay.place) v c.put.new.seat.view c.put.ensures.grew c.args.op c.args.a c.args.b c.args.number i.0 s c.requires.fields.2 h told c.put.ensures.wrote i.1

pub returns-in-Full-clause-puts : goal.returns-in-Full-clause-puts
returns-in-Full-clause-puts g c s h told =
    let v = c.args.seat.now.view in
    let i = c.in-Full.ensures.answer in
    put_full g.L.Law.right c.args.shared.now.shape (bank_in v.stay.place) (version_in v.stay.place) v c.put.new.seat.view c.put.ensures.grew c.args.op c.args.a c.args.b c.args.number c.in-Full.word s c.requires.fields.2 h told c.put.ensures.wrote i.0 i.1
