use Rattle.px_call.proofs.call.BankCall.finish.Given as goal

abbrev pub ghosts-close : goal.ghosts-close
ghosts-close g a = record { began = a.self.now.began }
