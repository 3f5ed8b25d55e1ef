use Rattle.px_hub_rows.proofs.settling.settled_then_gone.Given as goal

abbrev pub ghosts-settled_then_gone_as : goal.ghosts-settled_then_gone_as
ghosts-settled_then_gone_as g a = record { table = a.parts.shared; passes = a.parts.passes }
