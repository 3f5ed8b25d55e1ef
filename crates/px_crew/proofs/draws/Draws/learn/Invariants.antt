use Rattle.px_crew.proofs.draws.Draws.learn.Given as goal

abbrev pub ghosts-learn : goal.ghosts-learn
ghosts-learn a = record { quota = a.self.now.quota }
