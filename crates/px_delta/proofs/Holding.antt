-- A machine that takes the events of a document, and the filters that it finds.
use Rattle.std.proofs.Common.{◌≡◌, ℕ, ◌+◌, ◌<◌, List, [], ◌∷◌, ◌++◌, length, take, get_or, Result, Ok, Err, IfOk, sym, ap, ◌∙◌, subst, append_assoc}
use Rattle.std.proofs.lemmas.List.{take_more}
use Rattle.px_text.specs.Nodes.{Root}
use Rattle.px_reader.specs.Spelling.{events_of}
use Rattle.px_reader.specs.declared.event.Event.{Event}
use Rattle.px_xpath.specs.declared.numbered.Numbered.{Numbered}
use Rattle.px_xpath.specs.Meaning.{holds}
use Rattle.px_xpath.specs.Subscribed.{subscriptions}
use Rattle.px_afa.specs.Accepting.{accepted}
use Rattle.px_afa.specs.Building.{Automata, automata}
use Rattle.px_afa.specs.Contents.{root_content}
use Rattle.px_afa.specs.Machine.{machine_of}
use Rattle.px_afa.specs.Sound.{AreProper}
use Rattle.px_afa.proofs.Soundness.{have-steps}
use Rattle.px_runner.proofs.AcceptedIds.{accepted-matches}
use Rattle.px_machine.specs.declared.machine.Machine.{Machine}
use Rattle.px_machine.specs.Machines.{HasRun}
use Rattle.px_delta.specs.Lists.{matching}

are_proper : (filters : List Numbered) → AreProper (subscriptions filters)
are_proper [] = tt
are_proper (x ∷ filters) = (x.filter.proper, are_proper filters)

-- the events so far, and the next
pub taken_next : (given events : List Event) (i : ℕ) (next : Event) → i < length events → next ≡ get_or events i next →
    (given ++ take i events) ++ next ∷ [] ≡ given ++ take (i + 1) events
taken_next given events i next lt e =
    append_assoc given (take i events) (next ∷ [])
    ∙ ap (λ more. given ++ more) (ap (λ x. take i events ++ x ∷ []) e ∙ sym (take_more events i next lt))

-- what the machine of the filters finds, when it has taken all events
pub finds : {E : Type 0} (filters : List Numbered) (old after : Machine) (events : List Event) (result : Result (List ℕ) E) → HasRun old (automata (subscriptions filters)) [] →
    ((program : Automata) (given : List Event) → HasRun old program given → HasRun after program (given ++ events)) →
    IfOk result (λ ids. (program : Automata) (root : Root) → HasRun after program (events_of root) → ids ≡ accepted (machine_of program.states) program.firsts (root_content root)) →
    IfOk result (λ ids. (root : Root) → events ≡ events_of root → ids ≡ matching (λ filter. holds filter root) (subscriptions filters))
finds filters old after events (Ok ids) run on h = λ root e.
    let steps = have-steps (subscriptions filters) (are_proper filters) in
    let P : List Event → Type 0 = λ es. HasRun after (automata (subscriptions filters)) es in
    h (automata (subscriptions filters)) root (subst P e (on (automata (subscriptions filters)) [] run)) ∙ accepted-matches (subscriptions filters) steps root
finds filters old after events (Err fault) run on h = tt
