-- A document whose lines are judged where they lie, and whose events are kept.
use Rattle.std.specs.Prelude.{ℕ, ◌+◌, ◌≤◌, List, ◌∷◌, ◌++◌, length}
use Rattle.px_reader.specs.declared.event.Event.{Event}
use Rattle.px_reader.specs.declared.fault.LineFault.{LineFault}
use Rattle.px_reader.specs.declared.fault.LineFault.TheVariants.{Kind, LineMemory}
use Rattle.px_reader.specs.declared.scanner.Scanner.{Scanner}
use Rattle.px_reader.specs.Judged.{Judged}
use Rattle.px_reader.specs.Lines.{lines_of}
use Rattle.px_reader.specs.Scanned.{IsWithin}
use Rattle.px_reader.specs.Scanning.{state_in}
use Rattle.px_reader.specs.Verdicts.{Judges, HasVerdict, IsFaulty}

-- The lines of the bytes are judged, and brought the events.
pub record Records (scanner : Scanner) (bytes : List ℕ) (events : List Event) : Type 0 where
  pub run : IsWithin bytes scanner.run
  pub value : IsWithin bytes scanner.value
  pub small : length bytes ≤ 16_777_216
  pub judged : Judged (lines_of bytes) (state_in bytes scanner) events

-- Behind these bytes the line has the fault, however the lines go on.
abbrev pub Refuses : (bytes line : List ℕ) → LineFault → Type 0
Refuses bytes line (Kind kind) = (more : List (List ℕ)) → Judges (lines_of bytes ++ line ∷ more) (IsFaulty (length (lines_of bytes) + 1) kind)
Refuses bytes line LineMemory = Unit {0}

-- The bytes end with this line, if it is not empty, and their last line has the fault.
abbrev pub RefusesEnd : (bytes line : List ℕ) → LineFault → Type 0
RefusesEnd bytes line (Kind kind) = HasVerdict (bytes ++ line) (IsFaulty (length (lines_of (bytes ++ line))) kind)
RefusesEnd bytes line LineMemory = Unit {0}
