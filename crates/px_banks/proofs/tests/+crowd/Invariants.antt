use Rattle.px_banks.proofs.tests.+crowd.Given as goal

abbrev pub decreases-crowd : goal.decreases-crowd
decreases-crowd g l = l.left
