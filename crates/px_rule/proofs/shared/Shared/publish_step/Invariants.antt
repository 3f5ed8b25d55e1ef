use Rattle.px_rule.proofs.shared.Shared.publish_step.Given as goal

abbrev pub ghosts-publish : goal.ghosts-publish
ghosts-publish g a = record { shape = a.self.now.shape; bank = a.bank; old = 0; version = 0; place = 0; word = 0 }
