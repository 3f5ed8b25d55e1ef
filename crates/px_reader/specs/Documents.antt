-- What is known of a document's bytes.
use Rattle.std.specs.Prelude.{ℕ, ◌≤◌, List, length}
use Rattle.px_reader.specs.declared.event.Event.{Event}
use Rattle.px_reader.specs.Verdicts.{SpellsTree, AreTreeEvents}

-- a document is seen as its bytes
abbrev pub content : List ℕ → List ℕ
content doc = doc

-- The bytes spell a tree, and these are its events, which are not too many.
pub record IsSpelt (bytes : List ℕ) (events : List Event) : Type 0 where
  pub spelt : SpellsTree bytes
  pub told : AreTreeEvents bytes events
  pub few : length events ≤ 16_777_216
