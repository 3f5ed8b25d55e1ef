use Rattle.px_line.proofs.Kept.{kept_take}
use Rattle.px_line.proofs.Moves.{takes, learns}
use Rattle.px_line.proofs.queue.take.Goals as goal

pub pop_as-requires-clause-rule : goal.pop_as-requires-clause-rule
pop_as-requires-clause-rule g c = (takes g.T.Item.giver g.T.Item.next _ _ c.requires.part, learns g.T.Item.giver g.T.Item.next _ _)

pub returns-clause-keeps : goal.returns-clause-keeps
returns-clause-keeps g c = kept_take g.T.Item.giver g.T.Item.next _ _ _ c.pop_as.ensures.rule
