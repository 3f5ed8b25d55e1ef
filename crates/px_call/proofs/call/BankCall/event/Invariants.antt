use Rattle.px_call.proofs.call.BankCall.event.Given as goal

abbrev pub ghosts-advance : goal.ghosts-advance
ghosts-advance g a = record { began = a.self.now.began }
