use Rattle.px_rule.proofs.shared.Shared.claim_step.Given as goal

abbrev pub ghosts-claim : goal.ghosts-claim
ghosts-claim g a = record { shape = a.self.now.shape; bank = a.bank; old = a.old; version = a.new; place = 0; word = 0 }
