-- What is not refused may come.
use Rattle.std.proofs.Common.{◌≡◌, ℕ, ◌+◌, ◌≤◌, ◌<◌, Bool, true, false, List, [], ◌∷◌, ◌++◌, length, find, Option, Some, None, refl, arith, nat_lt}
use Rattle.std.specs.Prelude.{◌-◌, IsSome, nat_le}
use Rattle.std.proofs.lemmas.Bool.{ltb-false, leb-false}
use Rattle.std.proofs.lemmas.List.{length-map}
use Rattle.px_xpath.specs.declared.filter.Filter.{Filter}
use Rattle.px_xpath.specs.Filters.{Way}
use Rattle.px_xpath.specs.Histories as histories
use Rattle.px_xpath.specs.Histories.{Subscription, IsLegal, IsLive, is_of, live, live_size, size}
use Rattle.px_xpath.specs.Whole as whole
use Rattle.px_workload.specs.declared.change.Change.{Change}
use Rattle.px_workload.specs.declared.change.Change.TheVariants.{Add, Drop}
use Rattle.px_workload.specs.Changes.{change, history}
use Rattle.px_workload.specs.Refusals.{refusal, refuses_all, refuses_beside, refuses_drop}
use Rattle.px_workload.proofs.Legal.{add-is-legal, drop-is-legal}

-- a version is left
pub all-none : (h : List histories.Change) → refuses_all h ≡ None → length h < 1_048_575
all-none h e = go (nat_le 1_048_575 (length h)) refl
  where
    go : (b : Bool) → nat_le 1_048_575 (length h) ≡ b → length h < 1_048_575
    go true f = let g = rw f at e in cc
    go false f = leb-false 1_048_575 (length h) f

-- and the sizes are small enough
pub beside-none : (h : List histories.Change) (others : ℕ) (filter : Way) → refuses_beside h others filter ≡ None → (others + size filter ≤ 500_000) × (length h < 1_048_575)
beside-none h others filter e = go (nat_lt 500_000 (others + size filter)) refl
  where
    go : (b : Bool) → nat_lt 500_000 (others + size filter) ≡ b → (others + size filter ≤ 500_000) × (length h < 1_048_575)
    go true f = let g = rw f at e in cc
    go false f = let g : refuses_all h ≡ None = rw f at e in (ltb-false 500_000 (others + size filter) f, all-none h g)

-- an add
pub add-may-come : (changes : List Change) (who : ℕ) (filter : Filter) → IsLegal (history changes) → refusal (history changes) (change (Add who filter)) ≡ None →
    IsLegal (history (changes ++ Add who filter ∷ []))
add-may-come changes who filter legal e =
    let fits = beside-none (history changes) (live_size (live (history changes))) (whole.filter filter) e in
    let long = length-map changes change in
    add-is-legal changes who filter legal fits.0 (omega (arith, long, fits.1))

drop-none : (h : List histories.Change) (found : Option Subscription) → refuses_drop h found ≡ None → IsSome found × (length h < 1_048_575)
drop-none h None e = cc
drop-none h (Some s) e = (refl, all-none h e)

-- a drop
pub drop-may-come : (changes : List Change) (who id : ℕ) → IsLegal (history changes) → refusal (history changes) (change (Drop who id)) ≡ None →
    IsLegal (history (changes ++ Drop who id ∷ []))
drop-may-come changes who id legal e =
    let there = drop-none (history changes) (find (is_of id) (live (history changes))) e in
    let long = length-map changes change in
    drop-is-legal changes who id legal there.0 (omega (arith, long, there.1))

-- a replacement, whose sizes were counted
pub replacement-fits : (h : List histories.Change) (gone others after : ℕ) (filter : Way) → refuses_beside h others filter ≡ None → others ≡ live_size (live h) - gone →
    after + gone ≡ live_size (live h) + size filter → (after ≤ 500_000) × (length h < 1_048_575)
replacement-fits h gone others after filter e is sizes = let fits = beside-none h others filter e in (omega (arith, fits.0, is, sizes), fits.1)
