-- What is known of a document that comes line by line.
use Rattle.std.specs.Prelude.{◌≡◌, ℕ, ◌<◌, List, length, true}
use Rattle.px_reader.specs.declared.event.Event.{Event}
use Rattle.px_reader.specs.declared.scanner.Scanner.{Scanner}
use Rattle.px_reader.specs.Lines.{is_whole, lines_of}
use Rattle.px_reader.specs.Records.{Records}
use Rattle.px_reader.specs.Verdicts.{IsFine}

-- a recorder is seen as its lines so far
abbrev pub recorded : List ℕ → List ℕ
recorded recorder = recorder

-- no line of the bytes has a fault
abbrev pub AreFine : List ℕ → Type 0
AreFine bytes = (k : ℕ) → k < length (lines_of bytes) → IsFine (lines_of bytes) k

-- The lines are judged and have ended, and brought the events.
pub record HasRecorded (scanner : Scanner) (bytes : List ℕ) (events : List Event) : Type 0 where
  pub records : Records scanner bytes events
  pub whole : is_whole bytes ≡ true
