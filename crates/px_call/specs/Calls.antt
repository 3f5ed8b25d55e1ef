-- What a call over a bank has done with the events of a document that it was given.
use Rattle.std.specs.Prelude.{◌≡◌, ℕ, true, List, [], ◌∷◌, ◌++◌, Option, Some}
use Rattle.px_text.specs.declared.op.Op.{Op}
use Rattle.px_text.specs.Nodes.{Root}
use Rattle.px_text.specs.Operands.{Operand}
use Rattle.px_reader.specs.declared.event.Event.{Event}
use Rattle.px_reader.specs.Spelling.{events_of}
use Rattle.px_afa.specs.Building.{Automata}
use Rattle.px_afa.specs.Sets.{first_set}
use Rattle.px_afa.specs.Steps.{Step, run_of}
use Rattle.px_rule.specs.declared.shape.Shape.{Shape}
use Rattle.px_rule.specs.declared.view.View.{View}
use Rattle.px_rule.specs.Table.{Seated, is_inside, bank_in, version_in}
use Rattle.px_rule.specs.Kept.{Grew}
use Rattle.px_runner.specs.declared.runner.Runner.{Runner}
use Rattle.px_runner.specs.Events.{ground, events_steps}
use Rattle.px_runner.specs.Running.{HasRun, held_by}
use Rattle.px_call.specs.declared.tally.Tally.{Tally}
use Rattle.px_call.specs.Counted.{Counts}
use Rattle.px_call.specs.Memory.{memory, program_of, StandsFor}

-- the sets that some events give to hold
abbrev pub held_in : List Event → List (List ℕ)
held_in [] = []
held_in (event ∷ events) = held_by event ++ held_in events

-- and before the first event the set of all first states, and the empty set
abbrev pub sets_held : Automata → List Event → List (List ℕ)
sets_held automata given = first_set automata.firsts ∷ [] ∷ held_in given

-- the steps that the events bring
abbrev pub steps_brought : Automata → List Event → List Step
steps_brought automata given = events_steps automata.states (ground automata) given

-- A call over a bank, as contracts see it: its seat when it had entered, its runner, if want of memory left it one, and what it has counted
pub record Call (E : Type 0) : Type 0 where
  pub began : Seated E
  pub runner : Option Runner
  pub tally : Tally

module _ {E : Type 0} (right : List E → Op → Operand → Operand → List ℕ → Type 0) where
  -- the counts of a call over bank k at version n, which was given these events
  abbrev pub CountsAt : Shape → (k n : ℕ) → Automata → View E → View E → Tally → List Event → Type 0
  CountsAt z k n automata began v tally given = Counts right z k n began v tally (steps_brought automata given) (sets_held automata given)

  -- The call began with this seat, which is inside its bank. Its runner has taken the events, and its counts are those of their steps
  pub record HasFiltered (automata : Automata) (began seat : Seated E) (call : Call E) (given : List Event) : Type 0 where
    pub began_is : call.began ≡ began
    pub inside : is_inside began.view.stay.place ≡ true
    pub table : seat.table ≡ began.table
    pub grew : Grew began.view seat.view
    pub runs : (runner : Runner) × (call.runner ≡ Some runner) × HasRun program_of (StandsFor right) (memory automata began seat call.tally) runner given
    pub counts : CountsAt began.table.shape (bank_in began.view.stay.place) (version_in began.view.stay.place) automata began.view seat.view call.tally given

  -- the counts of a call that began with this seat, in the bank that it was inside
  abbrev pub CountsSince : Automata → Seated E → View E → Tally → List Event → Type 0
  CountsSince automata began v tally given = CountsAt began.table.shape (bank_in began.view.stay.place) (version_in began.view.stay.place) automata began.view v tally given

  -- The runner has taken these events, over a memo for the seat, and the counts are those of their steps
  pub record IsRunning (automata : Automata) (began seat : Seated E) (tally : Tally) (runner : Runner) (given : List Event) : Type 0 where
    pub runs : HasRun program_of (StandsFor right) (memory automata began seat tally) runner given
    pub counts : CountsSince automata began seat.view tally given

  -- the counts of a call over a whole document: its steps are those of the run, in the bank at which the call began
  abbrev pub CountsOf : Automata → Seated E → View E → Tally → Root → Type 0
  CountsOf automata began v tally root =
      Counts right began.table.shape (bank_in began.view.stay.place) (version_in began.view.stay.place) began.view v tally (run_of automata root) (sets_held automata (events_of root))
