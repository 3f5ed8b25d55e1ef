-- The id has lost its home, and the others stand.
use Rattle.px_tiers.proofs.Shared.{changed}
use Rattle.px_tiers.proofs.laws.a_change_leaves_the_others.Goals as goal

pub returns : goal.returns
returns c = record { shared = changed }
