use Rattle.px_hub_rows.proofs.hubs.refreshed.Given as goal

abbrev pub ghosts-refreshed_as : goal.ghosts-refreshed_as
ghosts-refreshed_as g a = record { table = a.parts.shared; passes = a.parts.passes }
