use Rattle.px_post.proofs.Moving.{first_room, first_moves, first_stops}
use Rattle.px_post.proofs.pushing.put_first.Goals as goal

pub put_at-requires : goal.put_at-requires
put_at-requires g c = record { room = first_room c.args.feeder c.args.slips.now.items c.args.left.now.items c.index-first.result.now c.requires.ready c.requires.some c.index-first.ensures }

pub returns-then-put_at-clause-moves : goal.returns-then-put_at-clause-moves
returns-then-put_at-clause-moves g c =
    first_moves c.args.feeder c.args.number c.args.slips.now.items c.put_at.new.slips.items c.args.left.now.items c.pop_front.new.self.items c.index-first.result.now
    c.requires.ready c.requires.some c.index-first.ensures c.pop_front.ensures.rest c.if-put_at.ensures.put

pub returns-clause-moves : goal.returns-clause-moves
returns-clause-moves g c =
    (first_stops c.args.feeder c.args.number c.args.slips.now.items c.put_at.new.slips.items c.args.left.now.items c.index-first.result.now
    c.requires.ready c.requires.some c.index-first.ensures c.if-put_at.ensures.put).0

pub returns-clause-went : goal.returns-clause-went
returns-clause-went g c =
    (first_stops c.args.feeder c.args.number c.args.slips.now.items c.put_at.new.slips.items c.args.left.now.items c.index-first.result.now
    c.requires.ready c.requires.some c.index-first.ensures c.if-put_at.ensures.put).1
