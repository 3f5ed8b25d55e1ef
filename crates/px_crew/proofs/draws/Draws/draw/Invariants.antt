use Rattle.px_crew.proofs.draws.Draws.draw.Given as goal

abbrev pub ghosts-draw : goal.ghosts-draw
ghosts-draw a = record { quota = a.self.now.quota }
