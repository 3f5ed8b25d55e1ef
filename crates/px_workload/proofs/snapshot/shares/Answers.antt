use Rattle.std.proofs.Common.{◌+◌, ◌++◌, ◌∙◌, ap, sym, refl, take}
use Rattle.px_workload.specs.Slots.{listed, listed_one, read_slot}
use Rattle.px_workload.proofs.Listing.{listed-next}
use Rattle.px_workload.proofs.snapshot.shares.Goals as goal

pub loop-at-preserved : goal.loop-at-preserved
loop-at-preserved c =
    let at = c.loop-at.at in
    let front = listed (take at c.args.slots.now) in
    c.in_ok-push_share.ensures
    ∙ ap (λ l. l ++ listed_one (at + 1) (read_slot c.as_ref.result)) c.loop-at.invariant
    ∙ ap (λ s. front ++ listed_one (at + 1) s) c.as_ref.ensures.value
    ∙ sym (listed-next c.args.slots.now at (at + 1) c.index-slots-at.result c.loop-at-test.true c.index-slots-at.is refl)
