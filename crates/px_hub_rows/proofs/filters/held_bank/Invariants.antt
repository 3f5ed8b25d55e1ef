use Rattle.px_hub_rows.proofs.filters.held_bank.Given as goal

abbrev pub ghosts-held_bank_as : goal.ghosts-held_bank_as
ghosts-held_bank_as g a = record { table = a.parts.shared; passes = a.parts.passes }
