-- Who made a change is no matter of what is live behind it.
use Rattle.std.proofs.Common.{◌≡◌, ℕ, ◌+◌, List, [], ◌∷◌, ◌++◌, map, length, refl, ap, ◌∙◌}
use Rattle.std.proofs.lemmas.List.{length-map, map-append}
use Rattle.px_text.specs.Nodes.{Root}
use Rattle.px_workload.specs.declared.change.Change.{Change}
use Rattle.px_workload.specs.declared.change.Change.TheVariants.{Add, Drop, Replace}
use Rattle.px_workload.specs.Changes.{change, history}
use Rattle.px_xpath.specs.Histories.{Subscription, live, live_from, after, matches}
use Rattle.std.specs.Prelude.{filter}
use Rattle.px_xpath.specs.Meaning.{holds}
use Rattle.px_changer.specs.Telling.{anonymous, all_anonymous}

same_after : (version : ℕ) (filters : List Subscription) (c : Change) → after version filters (change (anonymous c)) ≡ after version filters (change c)
same_after version filters (Add who filter) = refl
same_after version filters (Drop who id) = refl
same_after version filters (Replace who id filter) = refl

same_from : (version : ℕ) (filters : List Subscription) (cs : List Change) → live_from version filters (history (all_anonymous cs)) ≡ live_from version filters (history cs)
same_from version filters [] = refl
same_from version filters (c ∷ cs) =
    ap (λ (l : List Subscription). live_from (version + 1) l (history (all_anonymous cs))) (same_after (version + 1) filters c)
    ∙ same_from (version + 1) (after (version + 1) filters (change c)) cs

pub same_live : (cs : List Change) → live (history (all_anonymous cs)) ≡ live (history cs)
same_live cs = same_from 0 [] cs

pub same_matches : (cs : List Change) (root : Root) → matches (history (all_anonymous cs)) root ≡ matches (history cs) root
same_matches cs root = ap (λ (l : List Subscription). map (λ s. s.id) (filter (λ s. holds s.filter root) l)) (same_live cs)

pub same_length : (cs : List Change) → length (history (all_anonymous cs)) ≡ length cs
same_length cs = length-map (all_anonymous cs) change ∙ length-map cs anonymous

pub told_last : (cs : List Change) (c : Change) → history (all_anonymous (cs ++ c ∷ [])) ≡ history (all_anonymous cs) ++ change (anonymous c) ∷ []
told_last cs c = ap history (map-append anonymous cs (c ∷ [])) ∙ map-append change (all_anonymous cs) (anonymous c ∷ [])
