use Rattle.std.specs.Arc.{arc_value}
use Rattle.px_hub.proofs.Beginning.{new_desk}
use Rattle.px_hub.proofs.parts.open_desk.Goals as goal

pub invariant_of-result : goal.invariant_of-result
invariant_of-result g c = new_desk g.N.HubName.table g.N.HubName.passes c.args.seat c.args.journal.changes c.args.stands.items (arc_value c.args.built) c.requires.table c.requires.desk c.requires.empty c.requires.zeros c.requires.built
