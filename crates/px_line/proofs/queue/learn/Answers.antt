use Rattle.px_line.proofs.Moves.{learns}
use Rattle.px_line.proofs.queue.learn.Goals as goal

pub learn_as-requires-clause-rule : goal.learn_as-requires-clause-rule
learn_as-requires-clause-rule g c = learns g.T.Item.giver g.T.Item.next _ _
