use Rattle.std.proofs.Common.{List, map, ◌∙◌, ap, subst, sym}
use Rattle.px_text.specs.Sets.{Rising}
use Rattle.px_xpath.specs.Histories.{Subscription}
use Rattle.px_workload.specs.Changes.{history}
use Rattle.px_workload.specs.Slots.{listed}
use Rattle.px_workload.proofs.Climbing.{live-rising}
use Rattle.px_workload.proofs.journal.Journal.snapshot.Goals as goal

pub of-requires : goal.of-requires
of-requires c =
    let lists = c.in_ok-shares.ensures ∙ ap listed c.deref.ensures.value ∙ c.self.invariant.lists in
    let P : List Subscription → Type 0 = λ l. Rising (map (λ s. s.id) l) in
    record { order = subst P (sym lists) (live-rising (history c.self.inside.past.changes) c.self.invariant.legal) }
