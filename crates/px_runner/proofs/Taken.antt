-- Each event does what the definitions say.
use Rattle.std.proofs.Common.{◌≡◌, ℕ, ◌+◌, ◌*◌, ◌≤◌, List, [], ◌∷◌, ◌++◌, length, IfOk, OnOk, sym, ◌∙◌, ap, arith, subst, length-append, append-nil}
use Rattle.std.specs.Prelude.{Result, Ok, Err, Option}
use Rattle.px_text.specs.declared.op.Op.TheVariants.{Push}
use Rattle.px_text.specs.Operands.{index, set_of}
use Rattle.px_reader.specs.declared.event.Event.{Event}
use Rattle.px_reader.specs.declared.event.Event.TheVariants.{Start, Attr, Text, End}
use Rattle.px_afa.specs.declared.state.State.{State}
use Rattle.px_afa.specs.Building.{Automata, program}
use Rattle.px_afa.specs.Contents.{ElementKind, leaf_kind, leaf_text}
use Rattle.px_afa.specs.Steps.{Step, step, value_steps, raise_steps, label_of, leaf_steps, run_of}
use Rattle.px_runner.specs.declared.held.Held.{Held}
use Rattle.px_runner.specs.declared.runner.Runner.{Runner}
use Rattle.px_runner.specs.Memos.{Keeps, Advances}
use Rattle.px_runner.specs.Events.{Open, Opened, end_steps, with_child, values_in, begun, after_leaf, after_event, event_steps, after_events, events_steps, ground}
use Rattle.px_runner.specs.Running.{IsAt, HasRun, held_by, steps_made}
use Rattle.px_runner.specs.Gives.{Holds}
use Rattle.px_runner.specs.Operands.{AreStates}
use Rattle.px_runner.proofs.AcceptedIds.{accepted-matches}
use Rattle.px_runner.proofs.Fed.{after-append, steps-append, tree-opened, tree-steps}
use Rattle.px_text.specs.Nodes.{Root}
use Rattle.px_reader.specs.Spelling.{events_of}
use Rattle.px_afa.specs.Contents.{root_content}
use Rattle.px_afa.specs.Sets.{first_set, accept}
use Rattle.px_afa.specs.Accepting.{HaveSteps, accepted}
use Rattle.px_xpath.specs.Histories.{Change, live, matches}
use Rattle.px_afa.specs.Machine.{machine_of, gathered_of}

module _ {M : Type 0} (automata : M → Automata) (stands_for : M → Held → List ℕ → Type 0) (tells : M → List Step → List (List ℕ) → Type 0) where
  -- the runner took the event
  abbrev pub Took : (old new : M) → (runner after : Runner) → Event → Type 0
  Took old new runner after event = (opened : Opened) (made : ℕ) → IsAt automata stands_for old runner opened made →
      IsAt automata stands_for new after (after_event (automata old).states opened event) (made + length (event_steps (automata old).states opened event))
      × Advances automata stands_for tells old new (event_steps (automata old).states opened event) (held_by event)

  pub took_along : {A E : Type 0} (old new : M) (runner after : Runner) (r : Result A E) (event next : Event) → next ≡ event →
      OnOk r (Took old new runner after event) → OnOk r (Took old new runner after next)
  took_along old new runner after r event next same h = subst (λ e. OnOk r (Took old new runner after e)) (sym same) h

  pub took_start : {A E : Type 0} (old new : M) (runner after : Runner) (r : Result A E) (name : List ℕ) (label : ℕ) →
      label ≡ label_of (automata old).states (ElementKind name) →
      OnOk r ((opened : Opened) (made : ℕ) → IsAt automata stands_for old runner opened made →
      IsAt automata stands_for new after (begun (automata old).states opened label) (made + 1)
      × Advances automata stands_for tells old new (step (automata old).states Push (set_of opened.innermost.needed) (index label) ∷ []) ([] ∷ [])) →
      OnOk r (Took old new runner after (Start name))
  took_start old new runner after (Err e) name label is h = h
  took_start old new runner after (Ok v) name label is h = λ opened made at.
      let P : ℕ → Type 0 = λ l.
      IsAt automata stands_for new after (begun (automata old).states opened l) (made + 1)
      × Advances automata stands_for tells old new (step (automata old).states Push (set_of opened.innermost.needed) (index l) ∷ []) ([] ∷ []) in
      subst P is (h opened made at)

  -- what a leaf's call answers
  abbrev pub TookLeaf : (old new : M) → (runner after : Runner) → (label : ℕ) → (value said : List ℕ) → Type 0
  TookLeaf old new runner after label value said = (opened : Opened) (made : ℕ) → IsAt automata stands_for old runner opened made →
      IsAt automata stands_for new after
      (record { innermost = with_child (automata old).states opened.innermost (values_in (automata old).states value) label said; outer = opened.outer }) (made + 6)
      × Advances automata stands_for tells old new
      (value_steps (automata old).states value ++ raise_steps (automata old).states opened.innermost.needed opened.innermost.gathered (values_in (automata old).states value) label) []

  pub took_leaf : {A E : Type 0} (old new : M) (runner after : Runner) (r : Result A E) (name : Option (List ℕ)) (value slice said : List ℕ) (label : ℕ) →
      label ≡ label_of (automata old).states (leaf_kind name) → slice ≡ value → said ≡ leaf_text name value → OnOk r (TookLeaf old new runner after label slice said) →
      OnOk r ((opened : Opened) (made : ℕ) → IsAt automata stands_for old runner opened made →
      IsAt automata stands_for new after (after_leaf (automata old).states opened name value) (made + 6)
      × Advances automata stands_for tells old new (leaf_steps (automata old).states opened.innermost.needed opened.innermost.gathered name value) [])
  took_leaf old new runner after (Err e) name value slice said label is same all h = h
  took_leaf old new runner after (Ok v) name value slice said label is same all h =
      subst (λ l. TookLeaf old new runner after l value (leaf_text name value)) is
      (subst (λ t. TookLeaf old new runner after label value t) all
      (subst (λ t. TookLeaf old new runner after label t said) same h))

event-few : (program : List State) (opened : Opened) (event : Event) → length (event_steps program opened event) ≤ 7
event-few program opened (Start name) = omega arith
event-few program opened (Attr name value) = omega arith
event-few program opened (Text text) = omega arith
event-few program opened End = go opened.outer
  where
    go : (outer : List Open) → length (end_steps program opened.innermost outer) ≤ 7
    go [] = omega arith
    go (p ∷ outer) = omega arith

-- an event has at most 7 steps
pub events-few : (program : List State) (opened : Opened) (events : List Event) → length (events_steps program opened events) ≤ 7 * length events
events-few program opened [] = omega arith
events-few program opened (event ∷ events) =
    let one = event-few program opened event in
    let more = events-few program (after_event program opened event) events in
    let both = length-append (event_steps program opened event) (events_steps program (after_event program opened event) events) in
    omega arith

module _ {M : Type 0} (automata : M → Automata) (stands_for : M → Held → List ℕ → Type 0) (tells : M → List Step → List (List ℕ) → Type 0) where
  pub run_on : {A E : Type 0} (old new : M) (runner after : Runner) (r : Result A E) (next : Event) →
      OnOk r (Took automata stands_for tells old new runner after next) →
      OnOk r ((given : List Event) → HasRun automata stands_for old runner given →
      HasRun automata stands_for new after (given ++ next ∷ [])
      × Advances automata stands_for tells old new (event_steps (automata old).states (after_events (automata old).states (ground (automata old)) given) next) (held_by next))
  run_on old new runner after (Err e) next h = h
  run_on old new runner after (Ok v) next h = λ given run.
      let opened = after_events (automata old).states (ground (automata old)) given in
      let made = events_steps (automata old).states (ground (automata old)) given in
      let there = h opened (length made) run.at in
      let steps : length (events_steps (automata old).states (ground (automata old)) (given ++ next ∷ [])) ≡ length made + length (event_steps (automata old).states opened next) =
      ap length (steps-append (automata old).states (ground (automata old)) given (next ∷ []) ∙ ap (λ l. made ++ l) (append-nil (event_steps (automata old).states opened next)))
      ∙ length-append made (event_steps (automata old).states opened next) in
      let At : Automata → Type 0 = λ p.
      IsAt automata stands_for new after (after_events p.states (ground p) (given ++ next ∷ [])) (length (events_steps p.states (ground p) (given ++ next ∷ []))) in
      let at : At (automata old) =
      subst (λ o. IsAt automata stands_for new after o (length (events_steps (automata old).states (ground (automata old)) (given ++ next ∷ []))))
      (sym (after-append (automata old).states (ground (automata old)) given (next ∷ [])))
      (subst (λ n. IsAt automata stands_for new after (after_event (automata old).states opened next) n) (sym steps) there.0) in
      (record { at = subst At (sym there.1.keeps.same) at }, there.1)

  -- what the document root has gathered in the end
  pub ground_holds : (memo : M) (runner : Runner) (root : Root) → HasRun automata stands_for memo runner (events_of root) →
      Holds automata stands_for memo runner.innermost.gathered (gathered_of (machine_of (automata memo).states) (first_set (automata memo).firsts) [] (root_content root))
  ground_holds memo runner root run =
      subst (λ o. Holds automata stands_for memo runner.innermost.gathered o.innermost.gathered) (tree-opened (automata memo) root) run.at.inner.gathered

  pub steps_are : (memo : M) (runner : Runner) (root : Root) → HasRun automata stands_for memo runner (events_of root) → steps_made runner ≡ length (run_of (automata memo) root)
  steps_are memo runner root run = run.at.steps ∙ ap length (tree-steps (automata memo) root)

  -- the ids that are accepted of what the root's value stands for, by the program that the memo still has
  pub finished : {E : Type 0} (memo after : M) (runner : Runner) (program : Automata) (r : Result (List ℕ) E) (found : List ℕ) →
      program ≡ automata after → Keeps automata stands_for memo after →
      ((set : List ℕ) → stands_for memo runner.innermost.gathered set → AreStates (automata memo).states set → found ≡ set) →
      IfOk r (λ ids. ids ≡ accept program.firsts found) →
      IfOk r (λ ids. (root : Root) → HasRun automata stands_for memo runner (events_of root) →
      ids ≡ accepted (machine_of (automata memo).states) (automata memo).firsts (root_content root))
  finished memo after runner program (Err e) found is keeps one h = h
  finished memo after runner program (Ok ids) found is keeps one h = λ root run.
      let holds = ground_holds memo runner root run in
      h
      ∙ (ap (λ (p : Automata). accept p.firsts found) (is ∙ keeps.same)
      ∙ ap (accept (automata memo).firsts) (one (gathered_of (machine_of (automata memo).states) (first_set (automata memo).firsts) [] (root_content root)) holds.stands holds.states_alone))

  -- and where the program is that of a history, those are its matches
  pub matched : {E : Type 0} (memo : M) (runner : Runner) (r : Result (List ℕ) E) →
      IfOk r (λ ids. (root : Root) → HasRun automata stands_for memo runner (events_of root) →
      ids ≡ accepted (machine_of (automata memo).states) (automata memo).firsts (root_content root)) →
      IfOk r (λ ids. (history : List Change) (root : Root) → automata memo ≡ program history → HaveSteps (live history) →
      HasRun automata stands_for memo runner (events_of root) → ids ≡ matches history root)
  matched memo runner (Err e) h = h
  matched memo runner (Ok ids) h = λ history root same steps run.
      h root run ∙ (ap (λ (a : Automata). accepted (machine_of a.states) a.firsts (root_content root)) same ∙ accepted-matches (live history) steps root)
