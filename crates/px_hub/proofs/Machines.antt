-- The machine of a version.
use Rattle.std.proofs.Common.{◌≡◌, ℕ, ◌≤◌, List, [], ◌∷◌, map, length, sym, ap, ◌∙◌, subst, arith}
use Rattle.std.specs.Prelude.{take}
use Rattle.std.specs.Arc.{arc_value}
use Rattle.px_text.specs.Sets.{Rising}
use Rattle.px_xpath.specs.declared.numbered.Numbered.{Numbered}
use Rattle.px_xpath.specs.Histories.{Subscription, live, live_size}
use Rattle.px_xpath.specs.Subscribed.{subscriptions}
use Rattle.px_afa.specs.Building.{program}
use Rattle.px_afa.specs.Sound.{AreLive, AreRising}
use Rattle.px_workload.specs.declared.change.Change.{Change}
use Rattle.px_workload.specs.Changes.{history}
use Rattle.px_hub.specs.declared.at_version.AtVersion.{AtVersion}
use Rattle.px_hub.specs.Passes.{AreLiveBehind, IsBuilt}
use Rattle.px_hub.proofs.Adding.{take_whole}

rises : (ids : List ℕ) → Rising ids → AreRising ids
rises [] h = h
rises (id ∷ ids) h = (h.1, rises ids h.2)

-- a program can be built of the filters that are live behind a legal history
pub are_live : (seen filters : List Numbered) (changes : List Change) → seen ≡ filters → subscriptions filters ≡ live (history changes)
    → Rising (map (λ s. s.id) (live (history changes))) → live_size (live (history changes)) ≤ 500_000 → AreLive (subscriptions seen)
are_live seen filters changes same are rising small =
    let P : List Subscription → Type 0 = λ all. AreLive all in
    subst P (sym (ap subscriptions same ∙ are)) (record { ids_rise = rises (map (λ s. s.id) (live (history changes))) rising; few = small })

-- what was built is the machine of all changes
pub is_built : (changes : List Change) (c : AtVersion) → c.version ≡ length changes → AreLiveBehind changes (arc_value c.live).filters → arc_value c.program ≡ program (history changes) → arc_value c.compiled ≡ arc_value c.program
    → (c.version ≡ length changes) × IsBuilt changes c
is_built changes c version are is same =
    let whole : take c.version changes ≡ changes = ap (λ (n : ℕ). take n changes) version ∙ take_whole changes in (
      version,
      record {
        within = omega arith;
        live = subst (λ l. AreLiveBehind l (arc_value c.live).filters) (sym whole) are;
        program = is ∙ ap (λ l. program (history l)) (sym whole);
        compiled = same ∙ (is ∙ ap (λ l. program (history l)) (sym whole));
      },
    )

-- the filters that are live behind all changes, where it is the machine of all
pub live_of : (seen : List Change) (c : AtVersion) → c.version ≡ length seen → IsBuilt seen c → AreLiveBehind seen (arc_value c.live).filters
live_of seen c version k = subst (λ l. AreLiveBehind l (arc_value c.live).filters) (ap (λ (n : ℕ). take n seen) version ∙ take_whole seen) k.live
