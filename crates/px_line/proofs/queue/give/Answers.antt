use Rattle.px_line.proofs.Kept.{kept_give}
use Rattle.px_line.proofs.Moves.{gives, waits}
use Rattle.px_line.proofs.queue.give.Goals as goal

pub push_as-requires-clause-rule : goal.push_as-requires-clause-rule
push_as-requires-clause-rule g c =
    (gives g.T.Item.giver g.T.Item.next _ _ _ _ c.requires.giver c.requires.only c.requires.next, waits g.T.Item.giver g.T.Item.next _ _)

pub returns-clause-keeps : goal.returns-clause-keeps
returns-clause-keeps g c = kept_give g.T.Item.giver _ _ _ _ _ c.push_as.ensures.rule
