use Rattle.px_hub_rows.proofs.settling.two_banks.Given as goal

abbrev pub ghosts-two_banks_as : goal.ghosts-two_banks_as
ghosts-two_banks_as g a = record { table = a.parts.shared; passes = a.parts.passes }
