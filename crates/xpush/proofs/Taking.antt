-- A machine that takes events, and what it says of them.
use Rattle.std.proofs.Common.{◌≡◌, ℕ, List, [], ◌∷◌, ◌++◌, Result, Ok, Err, IfOk, sym, ap, ◌∙◌, subst}
use Rattle.px_text.specs.Nodes.{Root}
use Rattle.px_reader.specs.Spelling.{events_of}
use Rattle.px_reader.specs.declared.event.Event.{Event}
use Rattle.px_xpath.specs.declared.numbered.Numbered.{Numbered}
use Rattle.px_xpath.specs.Subscribed.{subscriptions}
use Rattle.px_afa.specs.Building.{Automata, automata}
use Rattle.px_afa.specs.Sound.{AreProper}
use Rattle.px_afa.proofs.Soundness.{have-steps}
use Rattle.px_machine.specs.declared.machine.Machine.{Machine}
use Rattle.px_machine.specs.Machines.{HasRun}
use Rattle.px_runner.proofs.AcceptedIds.{accepted-matches}
use Rattle.xpush.specs.Verdicts.{ids_accepted, ids_matching}

are-proper : (live : List Numbered) → AreProper (subscriptions live)
are-proper [] = tt
are-proper (x ∷ live) = (x.filter.proper, are-proper live)

-- what the program of live filters accepts
pub accepts : (live : List Numbered) (program : Automata) (root : Root) → program ≡ automata (subscriptions live) →
    ids_accepted program root ≡ ids_matching (subscriptions live) root
accepts live program root e =
    ap (λ (a : Automata). ids_accepted a root) e ∙ accepted-matches (subscriptions live) (have-steps (subscriptions live) (are-proper live)) root

-- the ids, when the last events have been taken as well
pub behind_ids : {E : Type 0} (before after : Machine) (events : List Event) (result : Result (List ℕ) E) →
    ((program : Automata) (given : List Event) → HasRun before program given → HasRun after program (given ++ events)) →
    IfOk result (λ ids. (program : Automata) (root : Root) → HasRun after program (events_of root) → ids ≡ ids_accepted program root) →
    IfOk result (λ ids. (program : Automata) (given : List Event) (root : Root) → HasRun before program given → events_of root ≡ given ++ events → ids ≡ ids_accepted program root)
behind_ids before after events (Ok ids) on h = λ program given root run e.
    h program root (let P : List Event → Type 0 = λ es. HasRun after program es in subst P (sym e) (on program given run))
behind_ids before after events (Err found) on h = tt
