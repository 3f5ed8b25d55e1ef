-- From one event of a call to the next: what a memo for the seat tells is what is known of the call.
use Rattle.std.proofs.Common.{◌≡◌, ℕ, ◌+◌, ◌<◌, ◌^◌, true, List, [], ◌∷◌, ◌++◌, length, Result, Ok, Err, Some, None, IfOk, sym, ap, ◌∙◌, subst, arith, append_assoc, append-nil}
use Rattle.std.proofs.lemmas.List.{length-append}
use Rattle.px_text.specs.declared.op.Op.{Op}
use Rattle.px_text.specs.Nodes.{Root}
use Rattle.px_text.specs.Operands.{Operand}
use Rattle.px_reader.specs.declared.event.Event.{Event}
use Rattle.px_reader.specs.Spelling.{events_of}
use Rattle.px_afa.specs.Building.{Automata}
use Rattle.px_afa.specs.Sets.{first_set}
use Rattle.px_afa.specs.Steps.{Step}
use Rattle.px_rule.specs.declared.view.View.{View}
use Rattle.px_rule.specs.Table.{TableName, Seated, is_inside, bank_in, version_in}
use Rattle.px_rule.specs.Kept.{Grew, Sound}
use Rattle.px_intern.specs.Answers.{IsSound}
use Rattle.px_runner.specs.declared.runner.Runner.{Runner}
use Rattle.px_runner.specs.Events.{ground, after_events, event_steps}
use Rattle.px_runner.specs.Running.{HasRun, held_by}
use Rattle.px_runner.specs.Memos.{Advances}
use Rattle.px_runner.proofs.Fed.{steps-append, tree-steps}
use Rattle.px_runner.proofs.Taken.{events-few}
use Rattle.px_call.specs.declared.tally.Tally.{Tally}
use Rattle.px_call.specs.Counted.{Counts}
use Rattle.px_call.specs.Memory.{Memory, memory, program_of, StandsFor, TellsOf}
use Rattle.px_call.specs.Calls.{held_in, sets_held, steps_brought, Call, HasFiltered, CountsSince, IsRunning, CountsOf}
use Rattle.px_call.proofs.Moves.{begins}
use Rattle.px_call.proofs.Memories.{later, earlier}

same_runner : (a b : Runner) → Some a ≡ Some b → a ≡ b
same_runner a b e = cc

held_more : (given : List Event) (event : Event) → held_in (given ++ event ∷ []) ≡ held_in given ++ held_by event
held_more [] event = append-nil (held_by event)
held_more (e ∷ given) event = ap (λ l. held_by e ++ l) (held_more given event) ∙ sym (append_assoc (held_by e) (held_in given) (held_by event))

-- the sets that a call held, and the steps that were brought, when one event more is taken
sets_more : (automata : Automata) (given : List Event) (event : Event) → sets_held automata given ++ held_by event ≡ sets_held automata (given ++ event ∷ [])
sets_more automata given event = ap (λ l. first_set automata.firsts ∷ [] ∷ l) (sym (held_more given event))

abbrev brought_by : Automata → List Event → Event → List Step
brought_by automata given event = event_steps automata.states (after_events automata.states (ground automata) given) event

steps_more : (automata : Automata) (given : List Event) (event : Event) → steps_brought automata given ++ brought_by automata given event ≡ steps_brought automata (given ++ event ∷ [])
steps_more automata given event =
    sym (steps-append automata.states (ground automata) given (event ∷ []) ∙ ap (λ l. steps_brought automata given ++ l) (append-nil (brought_by automata given event)))

few_steps : (automata : Automata) (given : List Event) → length given < 2 ^ 60 → length (steps_brought automata given) < 2 ^ 63
few_steps automata given short = let few = events-few automata.states (ground automata) given in omega arith

longer : (given : List Event) (event : Event) → length given + 1 < 2 ^ 60 → length (given ++ event ∷ []) < 2 ^ 60
longer given event short = subst (λ (l : ℕ). l < 2 ^ 60) (sym (length-append given (event ∷ []))) short

module _ {E : Type 0} (right : List E → Op → Operand → Operand → List ℕ → Type 0) (automata : Automata) (began : Seated E) where
  abbrev CountsIn : View E → Tally → List Step → List (List ℕ) → Type 0
  CountsIn v t steps sets = Counts right began.table.shape (bank_in began.view.stay.place) (version_in began.view.stay.place) began.view v t steps sets

  abbrev HasRunAt : Memory E → Runner → List Event → Type 0
  HasRunAt m runner given = HasRun program_of (StandsFor right) m runner given

  abbrev Moves : Memory E → Memory E → List Step → List (List ℕ) → Type 0
  Moves m n steps sets = Advances program_of (StandsFor right) (TellsOf right) m n steps sets

  -- all that the seat keeps of the bank stands in one right bank
  pub sound_of : (seat : Seated E) (t : Tally) (given : List Event) (here : TableName) → seat.table ≡ here → seat.table ≡ began.table → Grew began.view seat.view
      → CountsSince right automata began seat.view t given → IsSound right here.shape seat.view
  sound_of seat t given here at same g h =
      subst (λ (q : TableName). IsSound right q.shape seat.view) at (later right automata began (λ z k n. Sound right z k n seat.view) began seat same g h.counted.sound)

  -- what the memo knows of the events
  pub ran_before : (seat : Seated E) (t : Tally) (memo : Memory E) → memo ≡ memory automata began seat t → (runner : Runner) (given : List Event) → IsRunning right automata began seat t runner given → HasRunAt memo runner given
  ran_before seat t memo is runner given h = subst (λ (m : Memory E). HasRunAt m runner given) (sym is) h.runs

  -- the seat looked, and nothing is counted yet
  pub first_looked : (seat : Seated E) (t : Tally) (here : TableName) → seat.table ≡ here → seat.table ≡ began.table → Grew began.view seat.view → seat.view.touch.wrote ≡ began.view.touch.wrote → IsSound right here.shape seat.view
      → t.found ≡ 0 → t.computed ≡ 0 → t.own ≡ 0 → t.full ≡ None → CountsIn seat.view t [] []
  first_looked seat t here at same g wrote sound f c o n =
      begins right began.table.shape (bank_in began.view.stay.place) (version_in began.view.stay.place) began.view seat.view t g
      (earlier right automata began (λ z k n. Sound right z k n seat.view) began seat same g (subst (λ (q : TableName). IsSound right q.shape seat.view) (sym at) sound)) wrote f c o n

  -- A call on a memo for the seat: the memo that it began with, and the one that it left
  module _ (seat seat' : Seated E) (t t' : Tally) (same : seat.table ≡ began.table) (g : Grew began.view seat.view) (same' : seat'.table ≡ began.table) (g' : Grew began.view seat'.view)
      (old new : Memory E) (old_is : old ≡ memory automata began seat t) (new_is : new ≡ memory (program_of new) began seat' t') where
    left_is : program_of new ≡ program_of old → new ≡ memory automata began seat' t'
    left_is e = new_is ∙ ap (λ (a : Automata). memory a began seat' t') (e ∙ ap program_of old_is)

    counts_more : (before steps : List Step) (held sets : List (List ℕ)) → Moves old new steps sets → length (before ++ steps) < 2 ^ 63 → CountsIn seat.view t before held → CountsIn seat'.view t' (before ++ steps) (held ++ sets)
    counts_more before steps held sets a short h =
        let b = subst (λ (q : Memory E × Memory E). Moves q.0 q.1 steps sets) (λ i. (old_is i, left_is a.keeps.same i)) a in
        earlier right automata began (λ z k n. Counts right z k n began.view seat'.view t' (before ++ steps) (held ++ sets)) began seat' same' g'
        (b.told before held (λ _. later right automata began (λ z k n. Counts right z k n began.view seat.view t before held) began seat same g h) short)

    -- before the first event
    pub runs_first : {X : Type 0} (r : Result Runner X) → CountsIn seat.view t [] [] → IfOk r (λ runner. HasRunAt new runner []) → IfOk r (λ _. Moves old new [] (first_set (program_of old).firsts ∷ [] ∷ []))
        → IfOk r (λ runner. IsRunning right automata began seat' t' runner [])
    runs_first (Ok runner) h run a = record {
      runs = subst (λ (m : Memory E). HasRunAt m runner []) (left_is a.keeps.same) run;
      counts = subst (λ (p : Automata). CountsIn seat'.view t' [] (first_set p.firsts ∷ [] ∷ [])) (ap program_of old_is) (counts_more [] [] [] (first_set (program_of old).firsts ∷ [] ∷ []) a (omega arith) h);
    }
    runs_first (Err e) h run a = tt

    -- one event more
    pub runs_on : (runner after : Runner) (event : Event) (given : List Event)
        → (HasRunAt old runner given → HasRunAt new after (given ++ event ∷ []) × Moves old new (brought_by (program_of old) given event) (held_by event))
        → IsRunning right automata began seat t runner given → length given + 1 < 2 ^ 60 → IsRunning right automata began seat' t' after (given ++ event ∷ [])
    runs_on runner after event given took h short =
        let ran = took (ran_before seat t old old_is runner given h) in
        let a = subst (λ (p : Automata). Moves old new (brought_by p given event) (held_by event)) (ap program_of old_is) ran.1 in
        let steps = steps_more automata given event in
        let few = subst (λ l. length l < 2 ^ 63) (sym steps) (few_steps automata (given ++ event ∷ []) (longer given event short)) in
        record {
          runs = subst (λ (m : Memory E). HasRunAt m after (given ++ event ∷ [])) (left_is a.keeps.same) ran.0;
          counts = subst (λ (q : List Step × List (List ℕ)). CountsIn seat'.view t' q.0 q.1) (λ i. (steps i, sets_more automata given event i))
              (counts_more (steps_brought automata given) (brought_by automata given event) (sets_held automata given) (held_by event) a few h.counts);
        }

    -- behind the last event
    pub runs_out : (runner : Runner) (given : List Event) → Moves old new [] [] → length given < 2 ^ 60 → IsRunning right automata began seat t runner given → CountsSince right automata began seat'.view t' given
    runs_out runner given a short h =
        let steps = steps_brought automata given in
        let sets = sets_held automata given in
        let few = subst (λ l. length l < 2 ^ 63) (sym (append-nil steps)) (few_steps automata given short) in
        subst (λ (q : List Step × List (List ℕ)). CountsIn seat'.view t' q.0 q.1) (λ i. (append-nil steps i, append-nil sets i)) (counts_more steps [] sets [] a few h.counts)

  -- over a whole document
  pub counts_of_whole : (v : View E) (t : Tally) (root : Root) → CountsSince right automata began v t (events_of root) → CountsOf right automata began v t root
  counts_of_whole v t root h = subst (λ steps. CountsIn v t steps (sets_held automata (events_of root))) (tree-steps automata root) h

  -- what is known of a call, of its runner
  pub running_of : (seat : Seated E) (call : Call E) (given : List Event) (runner : Runner) → call.runner ≡ Some runner → HasFiltered right automata began seat call given → IsRunning right automata began seat call.tally runner given
  running_of seat call given runner e h = record {
    runs = subst (λ (r : Runner). HasRunAt (memory automata began seat call.tally) r given) (same_runner h.runs.0 runner (sym h.runs.1 ∙ e)) h.runs.2;
    counts = h.counts;
  }

  -- and of its runner, of the call
  pub filtered_of : (seat : Seated E) (call : Call E) (given : List Event) (runner : Runner) → call.began ≡ began → is_inside began.view.stay.place ≡ true → seat.table ≡ began.table → Grew began.view seat.view → call.runner ≡ Some runner
      → IsRunning right automata began seat call.tally runner given → HasFiltered right automata began seat call given
  filtered_of seat call given runner b inside same g e h = record {
    began_is = b;
    inside = inside;
    table = same;
    grew = g;
    runs = (runner, e, h.runs);
    counts = h.counts;
  }

  -- a call knows the seat that it began with
  pub of_its_seat : (seat : Seated E) (call : Call E) (given : List Event) → HasFiltered right automata began seat call given → HasFiltered right automata call.began seat call given
  of_its_seat seat call given h = subst (λ (b : Seated E). HasFiltered right automata b seat call given) (sym h.began_is) h
