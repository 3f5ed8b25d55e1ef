use Rattle.px_line.proofs.Moves.{joins}
use Rattle.px_line.proofs.queue.join.Goals as goal

pub absorb-requires-clause-rule : goal.absorb-requires-clause-rule
absorb-requires-clause-rule g c = joins g.T.Item.giver g.T.Item.next _ _ _ _
