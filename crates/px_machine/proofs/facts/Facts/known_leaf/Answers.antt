use Rattle.px_machine.proofs.Numbered.{if-true-leaf}
use Rattle.px_machine.proofs.facts.Facts.known_leaf.Goals as goal

pub returns : goal.returns
returns c = record { known = if-true-leaf c.args.self.now _ c.self.inside.leaves c.args.values c.args.label c.get.result c.self.view_is c.self.invariant.1 c.get.ensures.told }
