use Rattle.px_session.proofs.Read.{few_more, end_ok, end_err, gives_up_at_end}
use Rattle.px_session.proofs.taking.take_end.Goals as goal

pub give-requires : goal.give-requires
give-requires g c =
    let r = c.requires in
    (r.0, r.2, r.3.taken, few_more c.args.reader.now r.1 r.2 c.clear.new.self.items c.end.new.out.items c.as_slice.result.now c.clear.ensures.items c.as_slice.ensures.value r.3.read c.end.ensures.gives)

pub returns-in-Ok-clause-ends : goal.returns-in-Ok-clause-ends
returns-in-Ok-clause-ends g c =
    end_ok g.N.HubName.table c.args.pass.now c.give.new.pass c.args.reader.now c.args.call.now c.give.new.call c.clear.new.self.items c.end.new.out.items c.as_slice.result.now c.give.result
    c.clear.ensures.items c.as_slice.ensures.value c.end.ensures.gives c.in-Ok.ensures.tree c.give.ensures.ok

pub returns-in-Ok-clause-stops : goal.returns-in-Ok-clause-stops
returns-in-Ok-clause-stops g c =
    end_err g.N.HubName.table c.args.pass.now c.give.new.pass c.args.reader.now c.args.call.now c.give.new.call c.clear.new.self.items c.end.new.out.items c.as_slice.result.now c.give.result
    c.clear.ensures.items c.as_slice.ensures.value c.end.ensures.gives c.give.ensures.memory

pub returns-in-Err-clause-stops : goal.returns-in-Err-clause-stops
returns-in-Err-clause-stops g c = λ v bytes given runs. gives_up_at_end g.N.HubName.table v c.args.pass.now c.args.reader.now c.args.call.now bytes given c.in-Err.fault runs c.in-Err.ensures.fault
