use Rattle.px_machine.proofs.Numbered.{if-true-gift}
use Rattle.px_machine.proofs.facts.Facts.known_gift.Goals as goal

pub returns : goal.returns
returns c = record { known = if-true-gift c.args.self.now _ c.self.inside.gifts c.args.list c.args.label c.get.result c.self.view_is c.self.invariant.2 c.get.ensures.told }
