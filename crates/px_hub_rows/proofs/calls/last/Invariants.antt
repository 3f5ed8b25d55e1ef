use Rattle.px_hub_rows.proofs.calls.last.Given as goal

abbrev pub ghosts-last_of_pass : goal.ghosts-last_of_pass
ghosts-last_of_pass g a = record { automata = a.compiled.now }
