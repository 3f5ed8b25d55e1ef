use Rattle.px_hub_trial.proofs.run.Given as goal

abbrev pub ghosts-run_as : goal.ghosts-run_as
ghosts-run_as g a = record { table = a.parts.shared; passes = a.parts.passes }
