use Rattle.std.proofs.Common.{List, ◌+◌, ◌∷◌, ◌++◌, [], ◌∙◌, ap, map, subst, sym, length}
use Rattle.px_text.specs.Sets.{Rising}
use Rattle.px_xpath.specs.Histories.{IsLegal, Subscription, after, live}
use Rattle.px_xpath.specs.Subscribed.{subscriptions}
use Rattle.px_workload.specs.Accepted.{Accepted}
use Rattle.px_workload.specs.Changes.{change, history}
use Rattle.px_workload.specs.Slots.{listed}
use Rattle.px_workload.proofs.Climbing.{live-rising}
use Rattle.px_workload.proofs.Standing.{live-next}
use Rattle.px_workload.proofs.journal.Journal.snapshot_after.Goals as goal

pub of-requires : goal.of-requires
of-requires c =
    let asked = c.args.change.now in
    let changes = c.self.inside.past.changes in
    let lists =
    c.in_ok-shares_after.ensures
    ∙ ap (λ slots. after (length slots + 1) (listed slots) (change asked)) c.deref.ensures.value
    ∙ sym (live-next changes c.self.inside.table.slots.items asked c.self.invariant) in
    let P : List Subscription → Type 0 = λ l. Rising (map (λ s. s.id) l) in
    let L : Accepted → Type 0 = λ a. IsLegal (history (a.changes ++ asked ∷ [])) in
    record { order = subst P (sym lists) (live-rising (history (changes ++ asked ∷ [])) (subst L (sym c.self.view_is) c.requires.legal)) }

pub returns : goal.returns
returns c =
    let asked = c.args.change.now in
    record {
      live =
          ap subscriptions c.of.ensures.same ∙ c.in_ok-shares_after.ensures
          ∙ ap (λ slots. after (length slots + 1) (listed slots) (change asked)) c.deref.ensures.value
          ∙ sym (live-next c.self.inside.past.changes c.self.inside.table.slots.items asked c.self.invariant)
          ∙ ap (λ (a : Accepted). live (history (a.changes ++ asked ∷ []))) c.self.view_is;
    }
