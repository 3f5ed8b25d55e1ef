use Rattle.std.proofs.Common.{refl}
use Rattle.px_rule.proofs.Lasting.{grew_same}
use Rattle.px_call.proofs.solving.read.Goals as goal

pub returns-in-Plain-clause-looked : goal.returns-in-Plain-clause-looked
returns-in-Plain-clause-looked g c = record { grew = grew_same c.args.seat.now.view; sound = c.requires.sound; wrote = refl }

pub returns-in-Own-clause-looked : goal.returns-in-Own-clause-looked
returns-in-Own-clause-looked g c = record { grew = grew_same c.args.seat.now.view; sound = c.requires.sound; wrote = refl }
