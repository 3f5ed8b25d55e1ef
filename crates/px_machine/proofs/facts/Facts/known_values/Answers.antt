use Rattle.px_machine.proofs.Numbered.{if-true-values}
use Rattle.px_machine.proofs.facts.Facts.known_values.Goals as goal

pub returns : goal.returns
returns c = record { known = if-true-values c.args.self.now _ c.self.inside.values c.args.text c.args.number c.get.result c.self.view_is c.self.invariant.0 c.get.ensures.told }
