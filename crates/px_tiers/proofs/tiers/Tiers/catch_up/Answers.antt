-- Whoever waits is no longer live.
use Rattle.std.proofs.Common.{◌≡◌, ℕ, true, List, [], refl, sym, ◌∙◌, subst}
use Rattle.px_text.specs.Sets.{has}
use Rattle.px_workload.specs.Changes.{history}
use Rattle.px_xpath.specs.Histories.{IsLive, live}
use Rattle.px_tiers.proofs.Settling.{none_left}
use Rattle.px_tiers.proofs.tiers.Tiers.catch_up.Goals as goal

pub returns-then-kept-len : goal.returns-then-kept-len
returns-then-kept-len c =
    let all = live (history c.args.journal.now.changes) in
    let old = c.args.self.now in
    let new = record old { waiting = c.clear.new.self } in
    let P : List ℕ → Type 0 = λ ids. (q : ℕ) → has ids q ≡ true → IsLive q all → has c.in_ok-fresh.fresh.items q ≡ true in
    let empty : c.in_ok-fresh.fresh.items ≡ [] = sym c.deref-3.ensures.value ∙ c.is_none.ensures.none c.if-is_none.true in
    record { settled = none_left old new all c.in_ok-fresh.fresh.items c.requires.stand refl refl c.clear.ensures.items (subst P c.deref.ensures.value c.in_ok-fresh.ensures.all) empty }
