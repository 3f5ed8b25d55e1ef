-- It passes where its home says.
use Rattle.px_tiers.proofs.Shared.{found, found_ids}
use Rattle.px_tiers.proofs.laws.parts_find_what_passes.Goals as goal

pub returns : goal.returns
returns c = record { found = found; ids = found_ids }
