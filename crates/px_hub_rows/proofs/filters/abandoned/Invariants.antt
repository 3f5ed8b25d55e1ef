use Rattle.px_hub_rows.proofs.filters.abandoned.Given as goal

abbrev pub ghosts-abandoned_as : goal.ghosts-abandoned_as
ghosts-abandoned_as g a = record { table = a.parts.shared; passes = a.parts.passes }
