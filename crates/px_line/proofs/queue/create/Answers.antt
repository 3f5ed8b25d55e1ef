use Rattle.px_line.proofs.Moves.{begins}
use Rattle.px_line.proofs.queue.create.Goals as goal

pub ruled-requires-clause-rule : goal.ruled-requires-clause-rule
ruled-requires-clause-rule g c = begins g.T.Item.giver g.T.Item.next
