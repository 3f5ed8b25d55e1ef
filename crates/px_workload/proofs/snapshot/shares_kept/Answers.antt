use Rattle.std.proofs.Common.{◌+◌, ◌++◌, ◌∙◌, ap, sym, refl, take}
use Rattle.px_workload.specs.Changes.{change}
use Rattle.px_workload.specs.Slots.{kept, listed, listed_one, read_slot}
use Rattle.px_workload.proofs.Listing.{listed-next, kept-append}
use Rattle.px_workload.proofs.snapshot.shares_kept.Goals as goal

pub loop-at-preserved : goal.loop-at-preserved
loop-at-preserved c =
    let at = c.loop-at.at in
    let slot = c.index-slots-at.result in
    let asked = change c.args.change.now in
    let front = listed (take at c.args.slots.now) in
    c.in_ok-push_share.ensures
    ∙ ap (λ l. l ++ listed_one (at + 1) (read_slot c.kept_by.result)) c.loop-at.invariant
    ∙ ap (λ l. kept asked front ++ l) c.kept_by.ensures
    ∙ sym (kept-append asked front (listed_one (at + 1) slot))
    ∙ ap (kept asked) (sym (listed-next c.args.slots.now at (at + 1) slot c.loop-at-test.true c.index-slots-at.is refl))
