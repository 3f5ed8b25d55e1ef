use Rattle.px_hub_rows.proofs.callers.called.Given as goal

abbrev pub ghosts-call_all : goal.ghosts-call_all
ghosts-call_all g a = record { table = a.parts.shared; passes = a.parts.passes }
