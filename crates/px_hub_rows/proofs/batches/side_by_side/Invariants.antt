use Rattle.px_hub_rows.proofs.batches.side_by_side.Given as goal

abbrev pub ghosts-side_by_side_as : goal.ghosts-side_by_side_as
ghosts-side_by_side_as g a = record { table = a.parts.shared; passes = a.parts.passes }
