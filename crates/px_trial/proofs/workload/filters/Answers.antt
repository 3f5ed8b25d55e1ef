-- The live filters of a journal are in order.
use Rattle.std.proofs.Common.{List, sym, subst}
use Rattle.px_afa.specs.Sound.{AreLive}
use Rattle.px_xpath.specs.Histories.{Subscription}
use Rattle.px_trial.proofs.Legal.{is_live}
use Rattle.px_trial.proofs.workload.filters.Goals as goal

pub returns : goal.returns
returns c =
    let laws = c.live_filters_are_in_order.ensures in
    let legal = c.version-version.ensures.legal in
    let P : List Subscription → Type 0 = λ live. AreLive live in
    record { live = subst P (sym c.in_ok-snapshot.ensures.live) (is_live _ (laws.rising _ legal) (laws.small _ legal)); same = c.in_ok-snapshot.ensures.live }
