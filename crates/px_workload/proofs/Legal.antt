-- How a legal history goes on: what a caller of the journal shows before it appends.
use Rattle.std.proofs.Common.{ℕ, ◌+◌, ◌≤◌, ◌<◌, not, List, [], ◌∷◌, ◌++◌, length, length-append, refl, sym, subst, arith}
use Rattle.std.specs.Prelude.{◌==◌}
use Rattle.std.proofs.lemmas.List.{length-map}
use Rattle.std.proofs.lemmas.List.Sums.{sum_by_push}
use Rattle.std.proofs.lemmas.List.Filters.{sum_by-filter_both}
use Rattle.px_xpath.specs.declared.filter.Filter.{Filter}
use Rattle.px_xpath.specs.Histories as histories
use Rattle.px_xpath.specs.Histories.{after, live, live_size, size, NamesLive, IsLegal, IsLive}
use Rattle.px_xpath.specs.Whole as whole
use Rattle.px_workload.specs.declared.change.Change.{Change}
use Rattle.px_workload.specs.declared.change.Change.TheVariants.{Add, Drop, Replace}
use Rattle.px_workload.specs.Changes.{change, history}
use Rattle.px_workload.specs.Slots.{kept}
use Rattle.px_workload.proofs.Growing.{may_come_last, stays_small}
use Rattle.px_workload.proofs.Standing.{one_more}

-- A history goes on legally with a change that names a live id, and leaves the sizes and the number of changes within their limits.
pub legal-next : (changes : List Change) (c : Change) → IsLegal (history changes) → NamesLive (change c) (live (history changes)) →
    live_size (after (length changes + 1) (live (history changes)) (change c)) ≤ 500_000 → length changes < 1_048_575 → IsLegal (history (changes ++ c ∷ []))
legal-next changes c legal names small room =
    let P : List histories.Change → Type 0 = IsLegal in
    let same = length-map changes change in
    let longer = length-append (history changes) (change c ∷ []) in
    subst P (sym (one_more changes c))
    (may_come_last 0 [] (history changes) (change c) (length changes + 1) (omega arith) legal.0 names small, omega arith)

-- an add, where the size fits
pub add-is-legal : (changes : List Change) (who : ℕ) (filter : Filter) → IsLegal (history changes) →
    live_size (live (history changes)) + size (whole.filter filter) ≤ 500_000 → length changes < 1_048_575 → IsLegal (history (changes ++ Add who filter ∷ []))
add-is-legal changes who filter legal small room =
    let before = live (history changes) in
    let grown = sum_by_push (λ s. size s.filter) before (record { id = length changes + 1; filter = whole.filter filter }) in
    legal-next changes (Add who filter) legal tt (omega (arith, grown, small)) room

-- a drop, where the id is live
pub drop-is-legal : (changes : List Change) (who id : ℕ) → IsLegal (history changes) → IsLive id (live (history changes)) → length changes < 1_048_575 →
    IsLegal (history (changes ++ Drop who id ∷ []))
drop-is-legal changes who id legal is_live room =
    let before = live (history changes) in
    let parts = sum_by-filter_both (λ s. not (s.id == id)) (λ s. not (not (s.id == id))) (λ s. refl) (λ s. size s.filter) before in
    let small : live_size before ≤ 500_000 = stays_small 0 [] (history changes) (omega arith) legal.0 in
    legal-next changes (Drop who id) legal is_live (omega (arith, parts, small)) room

-- a replacement, where the id is live and the size fits
pub replace-is-legal : (changes : List Change) (who id : ℕ) (filter : Filter) → IsLegal (history changes) → IsLive id (live (history changes)) →
    live_size (kept (histories.Replaces who id (whole.filter filter)) (live (history changes))) ≤ 500_000 → length changes < 1_048_575 →
    IsLegal (history (changes ++ Replace who id filter ∷ []))
replace-is-legal changes who id filter legal is_live small room = legal-next changes (Replace who id filter) legal is_live small room
