-- The hub has these passes and no others.
use Rattle.std.proofs.Common.{List, sym, subst}
use Rattle.px_hub.specs.Passes.{PassView}
use Rattle.px_hub.specs.AllOfThem.{HoldsEvery}
use Rattle.px_parallel.proofs.loading.sums_over.Goals as goal

pub tallied-requires-clause-every : goal.tallied-requires-clause-every
tallied-requires-clause-every g c κs within =
    let P : List PassView → Type 0 = λ ps. HoldsEvery g.N.HubName.passes ps in subst P (sym c.deref_mut.ensures.value) c.in_ok-hub.ensures.every
