-- The sums are one.
use Rattle.px_parallel.proofs.OneLoad.{one_load}
use Rattle.px_parallel.proofs.laws.a_load_has_one_line.Goals as goal

pub returns : goal.returns
returns c = one_load
