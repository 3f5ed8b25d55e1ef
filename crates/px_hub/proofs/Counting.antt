-- The steps that events bring, counted by their kinds.
use Rattle.std.proofs.Common.{◌≡◌, ℕ, ◌+◌, ◌-◌, ◌*◌, ◌≤◌, List, [], ◌∷◌, ◌++◌, length, length-append, Result, Ok, Err, OnOk, refl, sym, ap, ◌∙◌, subst, arith}
use Rattle.std.proofs.lemmas.List.{append-nil}
use Rattle.std.proofs.lemmas.Bool.Decides.{nat_tests}
use Rattle.px_text.specs.Nodes.{Root}
use Rattle.px_reader.specs.declared.event.Event.{Event}
use Rattle.px_reader.specs.declared.event.Event.TheVariants.{Start, Attr, Text, End}
use Rattle.px_reader.specs.Spelling.{events_of}
use Rattle.px_xpath.specs.Histories.{Change}
use Rattle.px_afa.specs.declared.state.State.{State}
use Rattle.px_afa.specs.Building.{Automata, program}
use Rattle.px_afa.specs.Steps.{steps_of}
use Rattle.px_runner.specs.Events.{Open, Opened, ground, after_event, after_events, after_end, event_steps, events_steps, end_steps}
use Rattle.px_runner.proofs.Fed.{after-append, steps-append, tree-steps}
use Rattle.px_runner.proofs.Taken.{events-few}
use Rattle.px_machine.specs.declared.machine.Machine.{Machine}
use Rattle.px_machine.specs.Machines.{HasRun}
use Rattle.px_call.specs.Calls.{steps_brought}
use Rattle.px_hub.specs.declared.lone.Lone.{Lone}
use Rattle.px_hub.specs.Counting.{steps_at, depth_behind, depth_of, HasCounted}

module _ (states : List State) where
  depth_after : (o : Opened) (e : Event) → length (after_event states o e).outer ≡ depth_behind (length o.outer) e
  depth_after o (Start name) = omega arith
  depth_after o (Attr name value) = refl
  depth_after o (Text text) = refl
  depth_after o End = go o.outer
    where
      go : (outer : List Open) → length (after_end states o.innermost outer).outer ≡ length outer - 1
      go [] = omega arith
      go (p ∷ outer) = omega arith

  steps_after : (o : Opened) (e : Event) → length (event_steps states o e) ≡ steps_at (length o.outer) e
  steps_after o (Start name) = refl
  steps_after o (Attr name value) = refl
  steps_after o (Text text) = refl
  steps_after o End = go o.outer
    where
      go : (outer : List Open) → length (end_steps states o.innermost outer) ≡ steps_at (length outer) End
      go [] = refl
      go (p ∷ outer) = grind (arith, nat_tests)

  -- each event opens an element at most
  depth_few : (o : Opened) (es : List Event) → length (after_events states o es).outer ≤ length o.outer + length es
  depth_few o [] = omega arith
  depth_few o (e ∷ es) = let one = depth_after o e in let more = depth_few (after_event states o e) es in let low = behind_few (length o.outer) e in omega arith
    where
      behind_few : (depth : ℕ) (e : Event) → depth_behind depth e ≤ depth + 1
      behind_few depth (Start name) = omega arith
      behind_few depth (Attr name value) = omega arith
      behind_few depth (Text text) = omega arith
      behind_few depth End = omega arith

-- no more elements are open than events were given
pub depth_within : (automata : Automata) (given : List Event) → depth_of automata given ≤ length given
depth_within automata given = let few = depth_few automata.states (ground automata) given in omega arith

-- and they bring at most 7 steps each
pub steps_within : (automata : Automata) (given : List Event) → length (steps_brought automata given) ≤ 7 * length given
steps_within automata given = events-few automata.states (ground automata) given

-- an event brings 7 at most
pub steps_few : (depth : ℕ) (e : Event) → steps_at depth e ≤ 7
steps_few depth (Start name) = omega arith
steps_few depth (Attr name value) = omega arith
steps_few depth (Text text) = omega arith
steps_few depth End = grind (arith, nat_tests)

-- an event more
pub counted_on : (lone : Lone) (machine : Machine) (depth steps : ℕ) (automata : Automata) (given : List Event) (e : Event) → HasCounted lone automata given → HasRun machine automata (given ++ e ∷ [])
    → depth ≡ depth_behind lone.depth e → steps ≡ lone.steps + steps_at lone.depth e → HasCounted (record { machine = machine; depth = depth; steps = steps }) automata (given ++ e ∷ [])
counted_on lone machine depth steps automata given e h run depth_is steps_is =
    let o : Opened = after_events automata.states (ground automata) given in
    let there = after-append automata.states (ground automata) given (e ∷ []) in
    let made = events_steps automata.states (ground automata) given in
    record {
      run = run;
      depth = depth_is ∙ (ap (λ (d : ℕ). depth_behind d e) h.depth ∙ (sym (depth_after automata.states o e) ∙ ap (λ (x : Opened). length x.outer) (sym there)));
      steps = steps_is ∙ (ap (λ (n : ℕ). n + steps_at lone.depth e) h.steps ∙ (ap (λ (d : ℕ). length made + steps_at d e) h.depth ∙ (ap (λ (n : ℕ). length made + n) (sym (steps_after automata.states o e))
          ∙ (sym (length-append made (event_steps automata.states o e))
          ∙ ap length (ap (λ l. made ++ l) (sym (append-nil (event_steps automata.states o e))) ∙ sym (steps-append automata.states (ground automata) given (e ∷ [])))))));
    }

-- over a whole document they are those of its run
pub counted_run : (lone : Lone) (history : List Change) (root : Root) → HasCounted lone (program history) (events_of root) → lone.steps ≡ steps_of history root
counted_run lone history root h = h.steps ∙ ap length (tree-steps (program history) root)

-- where its machine has taken an event more
pub counted_ok : {A E : Type 0} (lone : Lone) (machine : Machine) (depth steps : ℕ) (e : Event) (r : Result A E) (more : ℕ) → more ≡ steps_at lone.depth e → depth ≡ depth_behind lone.depth e → steps ≡ lone.steps + more
    → OnOk r ((automata : Automata) (given : List Event) → HasRun lone.machine automata given → HasRun machine automata (given ++ e ∷ []))
    → OnOk r ((automata : Automata) (given : List Event) → HasCounted lone automata given → HasCounted (record { machine = machine; depth = depth; steps = steps }) automata (given ++ e ∷ []))
counted_ok lone machine depth steps e (Ok a) more more_is depth_is steps_is h = λ automata given c. counted_on lone machine depth steps automata given e c (h automata given c.run) depth_is (steps_is ∙ ap (λ (n : ℕ). lone.steps + n) more_is)
counted_ok lone machine depth steps e (Err s) more more_is depth_is steps_is h = tt
