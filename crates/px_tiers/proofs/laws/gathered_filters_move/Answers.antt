-- What moves is at home in the new list.
use Rattle.px_tiers.proofs.Shared.{gathered}
use Rattle.px_tiers.proofs.laws.gathered_filters_move.Goals as goal

pub returns : goal.returns
returns c = record { shared = gathered }
