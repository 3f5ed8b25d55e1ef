-- What a machine has of the events that it was given.
use Rattle.std.specs.Prelude.{◌≡◌, ℕ, zero, suc, ◌≤◌, List, [], ◌∷◌, length, take, drop, reverse}
use Rattle.px_reader.specs.declared.event.Event.{Event}
use Rattle.px_afa.specs.declared.state.State.{State}
use Rattle.px_afa.specs.Building.{Automata}
use Rattle.px_runner.specs.Operands.{AreBelow}
use Rattle.px_runner.specs.Events.{Open, Opened, ground, after_events}
use Rattle.px_machine.specs.declared.frame.Frame.{Frame}
use Rattle.px_machine.specs.declared.machine.Machine.{Machine}
use Rattle.px_machine.specs.Unpruned.{has_in, IsKept}

-- The frame keeps the element: its sets and its text are what stands behind those of the elements round it.
pub record IsHeld (states : List State) (sets : List (List ℕ)) (numbers text : List ℕ) (frame : Frame) (o : Open) (outer : List Open) : Type 0 where
  pub starts : frame.gathered ≤ length numbers
  pub begins : frame.text ≤ length text
  pub below : AreBelow (length sets) (drop frame.gathered numbers)
  pub kept : IsKept states frame.label (has_in sets (drop frame.gathered numbers)) (drop frame.text text) o outer

-- frame by frame, from the inside out
abbrev pub AreHeld : List State → (sets : List (List ℕ)) → (numbers text : List ℕ) → List Frame → List Open → Type 0
AreHeld states sets numbers text [] [] = Unit {0}
AreHeld states sets numbers text (frame ∷ frames) (o ∷ outer) =
    IsHeld states sets numbers text frame o outer × AreHeld states sets (take frame.gathered numbers) (take frame.text text) frames outer
AreHeld states sets numbers text _ _ = ⊥

-- the program that it works for
abbrev pub program_of : Machine → Automata
program_of machine = machine.facts.automata

-- the bytes that it remembers, and those that it may remember from one document to the next
abbrev pub bytes_of : Machine → ℕ
bytes_of machine = machine.facts.bytes

abbrev pub bound_of : Machine → ℕ
bound_of machine = machine.bound

-- Its frames are the elements that are open.
pub record IsAt (machine : Machine) (opened : Opened) : Type 0 where
  pub held : AreHeld machine.facts.automata.states machine.facts.sets machine.gathered.items machine.text.items
      (machine.innermost ∷ reverse machine.outer.items) (opened.innermost ∷ opened.outer)

-- It ran over these events of a document, for the program.
pub record HasRun (machine : Machine) (automata : Automata) (given : List Event) : Type 0 where
  pub works_for : machine.facts.automata ≡ automata
  pub at : IsAt machine (after_events automata.states (ground automata) given)

-- the numbers that a set's number adds: the empty set, under 0, adds none
abbrev pub given_numbers : ℕ → List ℕ
given_numbers zero = []
given_numbers (suc n) = suc n ∷ []
