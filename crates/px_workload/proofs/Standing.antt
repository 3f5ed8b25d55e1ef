-- A table that stands for a list of changes, and one change more.
use Rattle.std.proofs.Common.{◌≡◌, ◌+◌, ◌≤◌, List, [], ◌∷◌, ◌++◌, Option, length, length-append, ap, sym, subst, ◌∙◌, arith}
use Rattle.std.proofs.lemmas.List.{length-map, map-append}
use Rattle.px_xpath.specs.declared.filter.Filter.{Filter}
use Rattle.px_xpath.specs.Histories as histories
use Rattle.px_xpath.specs.Histories.{after, live, live_size, NamesLive, IsLegal}
use Rattle.px_workload.specs.declared.change.Change.{Change}
use Rattle.px_workload.specs.Changes.{change, history}
use Rattle.px_workload.specs.Slots.{listed}
use Rattle.px_workload.specs.Stands.{Stands}
use Rattle.px_workload.proofs.Growing.{live-grows, live_from-grows, last_may_come}

pub one_more : (changes : List Change) (c : Change) → history (changes ++ c ∷ []) ≡ history changes ++ change c ∷ []
one_more changes c = map-append change changes (c ∷ [])

-- what is live behind a list of changes and one more
pub live-behind : (changes : List Change) (c : Change) → live (history (changes ++ c ∷ [])) ≡ after (length changes + 1) (live (history changes)) (change c)
live-behind changes c =
    let same = length-map changes change in
    ap live (one_more changes c) ∙ live-grows (history changes) (change c) ∙ ap (λ n. after (n + 1) (live (history changes)) (change c)) same

count : (changes : List Change) (slots : List (Option Filter)) → length slots ≡ length changes → length slots + 1 ≡ 0 + length (history changes) + 1
count changes slots e = let same = length-map changes change in omega arith

-- the change may come
pub comes-next : (changes : List Change) (slots : List (Option Filter)) (c : Change) → Stands changes slots → IsLegal (history (changes ++ c ∷ [])) →
    NamesLive (change c) (listed slots) × (live_size (after (length slots + 1) (listed slots) (change c)) ≤ 500_000)
comes-next changes slots c stands legal =
    let P : List histories.Change → Type 0 = IsLegal in
    let longer = subst P (one_more changes c) legal in
    let Q : List histories.Subscription → Type 0 = λ l. NamesLive (change c) l × (live_size (after (length slots + 1) l (change c)) ≤ 500_000) in
    subst Q (sym stands.lists) (last_may_come 0 [] (history changes) (change c) (length slots + 1) (count changes slots stands.versions) longer.0)

-- what is live behind it
pub live-next : (changes : List Change) (slots : List (Option Filter)) (c : Change) → Stands changes slots →
    live (history (changes ++ c ∷ [])) ≡ after (length slots + 1) (listed slots) (change c)
live-next changes slots c stands =
    ap live (one_more changes c)
    ∙ live_from-grows 0 [] (history changes) (change c) (length slots + 1) (count changes slots stands.versions)
    ∙ ap (λ l. after (length slots + 1) l (change c)) (sym stands.lists)

-- the table that has taken it stands for the longer list
pub stands-next : (changes : List Change) (slots more : List (Option Filter)) (c : Change) → Stands changes slots → IsLegal (history (changes ++ c ∷ [])) →
    listed more ≡ after (length slots + 1) (listed slots) (change c) → length more ≡ length slots + 1 → Stands (changes ++ c ∷ []) more
stands-next changes slots more c stands legal lists longer = record {
  legal = legal;
  versions = (let both = length-append changes (c ∷ []) in let versions = stands.versions in omega arith);
  lists = lists ∙ sym (live-next changes slots c stands);
}
