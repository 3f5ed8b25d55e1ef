use Rattle.px_line.proofs.Moves.{ends}
use Rattle.px_line.proofs.queue.end.Goals as goal

pub absorb-requires-clause-rule : goal.absorb-requires-clause-rule
absorb-requires-clause-rule g c = ends g.T.Item.giver g.T.Item.next _ _ _ _ c.requires.giver.0 c.requires.giver.1
