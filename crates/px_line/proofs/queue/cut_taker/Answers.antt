use Rattle.px_line.proofs.Moves.{cuts}
use Rattle.px_line.proofs.queue.cut_taker.Goals as goal

pub another-requires-clause-rule : goal.another-requires-clause-rule
another-requires-clause-rule g c = cuts g.T.Item.giver g.T.Item.next _ _ c.requires.parts
