use Rattle.px_hub_rows.proofs.hubs.comes_and_goes.Given as goal

abbrev pub ghosts-comes_and_goes_as : goal.ghosts-comes_and_goes_as
ghosts-comes_and_goes_as g a = record { table = a.parts.shared; passes = a.parts.passes }
