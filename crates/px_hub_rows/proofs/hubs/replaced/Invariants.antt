use Rattle.px_hub_rows.proofs.hubs.replaced.Given as goal

abbrev pub ghosts-replaced_as : goal.ghosts-replaced_as
ghosts-replaced_as g a = record { table = a.parts.shared; passes = a.parts.passes }
