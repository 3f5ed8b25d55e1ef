use Rattle.px_hub_rows.proofs.settling.twenty_sets.Given as goal

abbrev pub ghosts-twenty_sets_as : goal.ghosts-twenty_sets_as
ghosts-twenty_sets_as g a = record { table = a.parts.shared; passes = a.parts.passes }
