use Rattle.px_rule.proofs.shared.Shared.load.Given as goal

abbrev pub ghosts-load : goal.ghosts-load
ghosts-load g a = record { shape = a.self.now.shape; bank = 0; old = 0; version = 0; place = 0; word = 0 }
