-- How far a document has been read.
use Rattle.std.specs.Prelude.{◌≡◌, ℕ, ◌<◌, List, ◌++◌, length, Some}
use Rattle.px_text.specs.Nodes.{Root}
use Rattle.px_reader.specs.declared.event.Event.{Event}
use Rattle.px_reader.specs.Machine.{State, Before, runs}
use Rattle.px_reader.specs.Spelling.{kinds, events_of}
use Rattle.px_reader.specs.Trees.{IsTree}
use Rattle.px_reader.specs.Verdicts.{IsFine}

-- No line has a fault, and the lines lead to the state and bring the events.
pub record Judged (lines : List (List ℕ)) (state : State) (given : List Event) : Type 0 where
  pub fine : (k : ℕ) → k < length lines → IsFine lines k
  pub led : runs Before (kinds lines) ≡ Some (state, given)

-- the events of some tree begin with these
abbrev pub BeginsTree : List Event → Type 0
BeginsTree given = (root : Root) × (more : List Event) × IsTree root × (events_of root ≡ given ++ more)
