use Rattle.px_rule.specs.Table.{version_in}
use Rattle.px_rule.proofs.shared.Shared.look_step.Given as goal

abbrev pub ghosts-look : goal.ghosts-look
ghosts-look g a = record { shape = a.self.now.shape; bank = a.bank; old = 0; version = version_in a.seat.now.me.0.stay.place; place = a.place; word = 0 }
