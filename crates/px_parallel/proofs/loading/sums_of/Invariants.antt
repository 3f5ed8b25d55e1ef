-- The hub is named for its table and its passes.
use Rattle.px_parallel.proofs.loading.sums_of.Given as goal

abbrev pub ghosts-sums_over : goal.ghosts-sums_over
ghosts-sums_over g a = record { table = a.parts.shared; passes = a.parts.passes }
