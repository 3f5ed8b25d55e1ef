-- What a runner has of the events that it was given.
use Rattle.std.specs.Prelude.{◌≡◌, ℕ, List, [], ◌∷◌, length, reverse}
use Rattle.px_reader.specs.declared.event.Event.{Event}
use Rattle.px_reader.specs.declared.event.Event.TheVariants.{Start, Attr, Text, End}
use Rattle.px_afa.specs.Building.{Automata}
use Rattle.px_runner.specs.declared.held.Held.{Held}
use Rattle.px_runner.specs.declared.runner.Runner.{Runner}
use Rattle.px_runner.specs.Events.{Opened, ground, after_events, events_steps}
use Rattle.px_runner.specs.Frames.{IsOpen, AreOpen, AreTexts}

-- Its frames are the elements that are open, and it made so many steps.
pub record IsAt {M : Type 0} (automata : M → Automata) (stands_for : M → Held → List ℕ → Type 0) (memo : M) (runner : Runner) (opened : Opened) (made : ℕ) : Type 0 where
  pub inner : IsOpen automata stands_for memo runner.innermost opened.innermost
  pub outer : AreOpen automata stands_for memo (reverse runner.outer.items) opened.outer
  pub texts : AreTexts runner.text.items (runner.innermost ∷ reverse runner.outer.items) (opened.innermost ∷ opened.outer)
  pub none : runner.none ≡ []
  pub steps : runner.steps ≡ made

-- It ran the machine of the memo's program over these events, and its values stand in the memo for the sets that it has of them.
pub record HasRun {M : Type 0} (automata : M → Automata) (stands_for : M → Held → List ℕ → Type 0) (memo : M) (runner : Runner) (given : List Event) : Type 0 where
  pub at : IsAt automata stands_for memo runner (after_events (automata memo).states (ground (automata memo)) given)
      (length (events_steps (automata memo).states (ground (automata memo)) given))

-- how many steps it made
abbrev pub steps_made : Runner → ℕ
steps_made runner = runner.steps

-- the sets that an event gives a memo to hold: the empty one of an element that begins
abbrev pub held_by : Event → List (List ℕ)
held_by (Start name) = [] ∷ []
held_by (Attr name value) = []
held_by (Text text) = []
held_by End = []
