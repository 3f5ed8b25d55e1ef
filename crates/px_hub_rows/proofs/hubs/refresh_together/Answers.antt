use Rattle.std.proofs.Common.{List, sym, subst}
use Rattle.px_hub.specs.AllOfThem.{HoldsEvery, AreClosed}
use Rattle.px_hub.specs.Passes.{PassView}
use Rattle.px_hub_rows.proofs.hubs.refresh_together.Goals as goal

pub refresh_all-requires : goal.refresh_all-requires
refresh_all-requires g c = record { every = subst (λ (l : List PassView). HoldsEvery g.N.HubName.passes l) (sym c.as_mut_slice.ensures.value) c.requires.every; closed = subst (λ (l : List PassView). AreClosed l) (sym c.as_mut_slice.ensures.value) c.requires.closed }
