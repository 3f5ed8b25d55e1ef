use Rattle.std.proofs.Common.{◌∙◌, ap, sym}
use Rattle.px_xpath.specs.Histories.{live, live_size}
use Rattle.px_workload.specs.Accepted.{Accepted}
use Rattle.px_workload.specs.Changes.{history}
use Rattle.px_workload.proofs.Listing.{listed-size}
use Rattle.px_workload.proofs.journal.Journal.live_size.Goals as goal

pub returns : goal.returns
returns c =
    c.self.inside.table.sums ∙ sym (listed-size 0 c.self.inside.table.slots.items) ∙ ap live_size c.self.invariant.lists
    ∙ ap (λ (a : Accepted). live_size (live (history a.changes))) c.self.view_is
