use Rattle.px_post.proofs.pushing.put_all.Goals as goal

pub put_first-stopped-requires-clause-ready : goal.put_first-stopped-requires-clause-ready
put_first-stopped-requires-clause-ready g c = c.loop.invariant.moves.ready c.requires.ready
