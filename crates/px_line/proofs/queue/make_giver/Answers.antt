use Rattle.px_line.proofs.Moves.{makes}
use Rattle.px_line.proofs.queue.make_giver.Goals as goal

pub another-requires-clause-rule : goal.another-requires-clause-rule
another-requires-clause-rule g c = makes g.T.Item.giver g.T.Item.next _ _ c.requires.makes.0 c.requires.makes.1
