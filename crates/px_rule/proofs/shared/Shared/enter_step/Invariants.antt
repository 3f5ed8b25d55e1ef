use Rattle.px_rule.proofs.shared.Shared.enter_step.Given as goal

abbrev pub ghosts-enter : goal.ghosts-enter
ghosts-enter g a = record { shape = a.self.now.shape; bank = a.bank; old = 0; version = a.version; place = 0; word = 0 }
