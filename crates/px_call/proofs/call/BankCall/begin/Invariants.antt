use Rattle.px_call.proofs.call.BankCall.begin.Given as goal

abbrev pub ghosts-start : goal.ghosts-start
ghosts-start g a = record { began = a.seat.now }
