use Rattle.px_hub_rows.proofs.settling.unsettled_note.Given as goal

abbrev pub ghosts-unsettled_note_as : goal.ghosts-unsettled_note_as
ghosts-unsettled_note_as g a = record { table = a.parts.shared; passes = a.parts.passes }
