use Rattle.px_rule.specs.Table.{version_in}
use Rattle.px_rule.proofs.shared.Shared.write_step.Given as goal

abbrev pub ghosts-write : goal.ghosts-write
ghosts-write g a = record { shape = a.self.now.shape; bank = a.bank; old = 0; version = version_in a.seat.now.me.0.stay.place; place = a.place; word = a.word }
