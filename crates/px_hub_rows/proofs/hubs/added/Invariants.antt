use Rattle.px_hub_rows.proofs.hubs.added.Given as goal

abbrev pub ghosts-added_as : goal.ghosts-added_as
ghosts-added_as g a = record { table = a.parts.shared; passes = a.parts.passes }
