use Rattle.px_pool.proofs.Naming.{add_up}
use Rattle.px_pool.proofs.laws.the_counts_of_a_batch_add_up.Goals as goal

pub returns : goal.returns
returns c z docs vs ws replies b apart = add_up z docs replies vs ws b apart
