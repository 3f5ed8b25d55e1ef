-- What is known of a document whose lines are recorded.
use Rattle.std.specs.Prelude.{◌≡◌, ℕ, true, List}
use Rattle.px_text.specs.Nodes.{Root}
use Rattle.px_reader.specs.Lines.{lines_of}
use Rattle.px_reader.specs.Recorded.{recorded, AreFine}
use Rattle.px_reader.specs.Spelling.{Spells}
use Rattle.px_reader.specs.declared.recorder.Recorder.{Recorder}

-- The lines so far are the bytes, and no fault has come.
pub record HasRecorded (recorder : Recorder) (bytes : List ℕ) : Type 0 where
  pub bytes_are : recorded recorder ≡ bytes
  pub fine : AreFine bytes

-- the lines spell no tree
abbrev pub IsStillOpen : Recorder → Type 0
IsStillOpen recorder = (root : Root) → Spells (lines_of (recorded recorder)) root → ⊥
