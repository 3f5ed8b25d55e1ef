-- A machine that takes the events of a document, and what it accepts.
use Rattle.std.proofs.Common.{◌≡◌, ℕ, ◌+◌, ◌<◌, List, [], ◌∷◌, ◌++◌, length, map, take, get_or, Result, Ok, Err, IfOk, OnOk, refl, sym, ap, ◌∙◌, subst, append_assoc}
use Rattle.std.proofs.lemmas.List.{take_more}
use Rattle.px_text.specs.Nodes.{Root}
use Rattle.px_reader.specs.Spelling.{events_of}
use Rattle.px_reader.specs.declared.event.Event.{Event}
use Rattle.px_xpath.specs.declared.numbered.Numbered.{Numbered}
use Rattle.px_xpath.specs.Histories.{Subscription}
use Rattle.px_xpath.specs.Meaning.{holds}
use Rattle.px_xpath.specs.Subscribed.{subscriptions}
use Rattle.px_afa.specs.Accepting.{HaveSteps, accepted}
use Rattle.px_afa.specs.Building.{Automata, automata}
use Rattle.px_afa.specs.Contents.{root_content}
use Rattle.px_afa.specs.Machine.{machine_of}
use Rattle.px_afa.specs.Sound.{AreProper}
use Rattle.px_afa.proofs.Soundness.{have-steps}
use Rattle.px_runner.proofs.AcceptedIds.{accepted-matches}
use Rattle.px_machine.specs.declared.machine.Machine.{Machine}
use Rattle.px_machine.specs.Machines.{HasRun, program_of}
use Rattle.px_tiers.specs.declared.tier.Tier.{Tier}
use Rattle.px_tiers.specs.Parts.{ids_where}
use Rattle.px_tiers.specs.Standings.{IsTier}

are_proper : (filters : List Numbered) → AreProper (subscriptions filters)
are_proper [] = tt
are_proper (x ∷ filters) = (x.filter.proper, are_proper filters)

-- each filter of the program has a step
pub steps_of : (filters : List Numbered) → HaveSteps (subscriptions filters)
steps_of filters = have-steps (subscriptions filters) (are_proper filters)

-- the events so far, and the next
pub taken_next : (given events : List Event) (i : ℕ) (next : Event) → i < length events → next ≡ get_or events i next →
    (given ++ take i events) ++ next ∷ [] ≡ given ++ take (i + 1) events
taken_next given events i next lt e =
    append_assoc given (take i events) (next ∷ [])
    ∙ ap (λ more. given ++ more) (ap (λ x. take i events ++ x ∷ []) e ∙ sym (take_more events i next lt))

-- what a tier finds, when its machine has taken all events
pub tier_finds : {E : Type 0} (old : Tier) (after : Machine) (events : List Event) (result : Result (List ℕ) E) →
    ((program : Automata) (given : List Event) → HasRun old.machine program given → HasRun after program (given ++ events)) →
    IfOk result (λ ids. (program : Automata) (root : Root) → HasRun after program (events_of root) → ids ≡ accepted (machine_of program.states) program.firsts (root_content root)) →
    IfOk result (λ ids. (part : List Subscription) (root : Root) → IsTier old part → events_of root ≡ events → ids ≡ ids_where (λ filter. holds filter root) part)
tier_finds old after events (Ok ids) on h = λ part root tier e.
    let P : List Event → Type 0 = λ es. HasRun after (automata part) es in
    h (automata part) root (subst P (sym e) (on (automata part) [] tier.run)) ∙ accepted-matches part tier.steps root
tier_finds old after events (Err found) on h = tt

-- it goes on with the same filters
pub tier_goes_on : {A E : Type 0} (old new : Tier) (after : Machine) (result : Result A E) → new.ids ≡ old.ids → program_of after ≡ program_of old.machine →
    OnOk result (HasRun new.machine (program_of after) []) → OnOk result ((part : List Subscription) → IsTier old part → IsTier new part)
tier_goes_on old new after (Ok x) ids same run = λ part tier. record {
  run = let P : Automata → Type 0 = λ p. HasRun new.machine p [] in subst P (same ∙ tier.run.works_for) run;
  steps = tier.steps;
  ids = ap (λ v. v.items) ids ∙ tier.ids;
}
tier_goes_on old new after (Err x) ids same run = tt

-- one id more
pub ids_more : (filters : List Numbered) (before after : List ℕ) (i : ℕ) (next : Numbered) → i < length filters → next ≡ get_or filters i next → before ≡ map (λ s. s.id) (subscriptions (take i filters)) →
    after ≡ before ++ next.id ∷ [] → after ≡ map (λ s. s.id) (subscriptions (take (i + 1) filters))
ids_more filters before after i next lt at so_far is =
    is ∙ ap (λ (ids : List ℕ). ids ++ next.id ∷ []) so_far ∙ ap (λ (x : Numbered). map (λ s. s.id) (subscriptions (take i filters)) ++ x.id ∷ []) at
    ∙ sym (ids_of (take i filters) (get_or filters i next)) ∙ ap (λ (list : List Numbered). map (λ s. s.id) (subscriptions list)) (sym (take_more filters i next lt))
  where
    ids_of : (list : List Numbered) (x : Numbered) → map (λ s. s.id) (subscriptions (list ++ x ∷ [])) ≡ map (λ s. s.id) (subscriptions list) ++ x.id ∷ []
    ids_of [] x = refl
    ids_of (y ∷ list) x = ap (λ (ids : List ℕ). y.id ∷ ids) (ids_of list x)
