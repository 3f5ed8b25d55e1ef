use Rattle.px_rule.proofs.shared.Shared.zero_step.Given as goal

abbrev pub ghosts-zero : goal.ghosts-zero
ghosts-zero g a = record { shape = a.self.now.shape; bank = a.bank; old = 0; version = 0; place = 0; word = 0 }
