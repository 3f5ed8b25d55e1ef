use Rattle.px_session.proofs.Read.{few_more, read_ok, read_err, stops_read}
use Rattle.px_session.proofs.taking.take_piece.Goals as goal

pub give-requires : goal.give-requires
give-requires g c =
    let r = c.requires in
    (r.0, r.2, r.3.taken, few_more c.args.reader.now r.1 r.2 c.clear.new.self.items c.feed.new.out.items c.as_slice.result.now c.clear.ensures.items c.as_slice.ensures.value r.3.read c.feed.ensures.gives)

pub returns-in-Ok-clause-on : goal.returns-in-Ok-clause-on
returns-in-Ok-clause-on g c =
    read_ok g.N.HubName.table c.args.pass.now c.give.new.pass c.args.reader.now c.feed.new.self c.args.call.now c.give.new.call c.args.piece.now c.clear.new.self.items c.feed.new.out.items c.as_slice.result.now c.give.result
    c.clear.ensures.items c.as_slice.ensures.value c.feed.ensures.gives c.in-Ok.ensures.reads c.give.ensures.ok

pub returns-in-Ok-clause-stops : goal.returns-in-Ok-clause-stops
returns-in-Ok-clause-stops g c =
    read_err g.N.HubName.table c.args.pass.now c.give.new.pass c.args.reader.now c.args.call.now c.give.new.call c.args.piece.now c.clear.new.self.items c.feed.new.out.items c.as_slice.result.now c.give.result
    c.clear.ensures.items c.as_slice.ensures.value c.feed.ensures.gives c.give.ensures.memory

pub returns-in-Err-clause-stops : goal.returns-in-Err-clause-stops
returns-in-Err-clause-stops g c = λ v bytes given runs. stops_read g.N.HubName.table v c.args.pass.now c.args.reader.now c.args.call.now bytes c.args.piece.now given c.in-Err.fault runs c.in-Err.ensures.fault
