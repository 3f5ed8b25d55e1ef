-- What a reader has been fed and has given.
use Rattle.std.specs.Prelude.{◌≡◌, ℕ, ◌≤◌, true, List, ◌++◌, length, take, None, Some}
use Rattle.px_text.specs.Nodes.{Root}
use Rattle.px_reader.specs.declared.event.Event.{Event}
use Rattle.px_reader.specs.declared.fault.ReaderFault.{ReaderFault}
use Rattle.px_reader.specs.declared.fault.ReaderFault.TheVariants.{Doc, Memory}
use Rattle.px_reader.specs.declared.fault.LineFault.{LineFault}
use Rattle.px_reader.specs.declared.fault.LineFault.TheVariants.{Kind, LineMemory}
use Rattle.px_reader.specs.Judged.{Judged, BeginsTree}
use Rattle.px_reader.specs.Lines.{lines_of, is_whole, has_no_feed}
use Rattle.px_reader.specs.Machine.{State}
use Rattle.px_reader.specs.Progress.{Progress}
use Rattle.px_reader.specs.Spelling.{Spells, events_of}
use Rattle.px_reader.specs.Verdicts.{HasVerdict, IsFaulty, IsTree}

-- Behind the bytes, which gave these events, stand the state and the counts of bytes and of ended lines. Of the line
-- that has begun the first bytes are kept, which are all of it unless it is too long.
pub record Reading (state : State) (kept : List ℕ) (size lines : ℕ) (bytes : List ℕ) (given : List Event) : Type 0 where
  pub ended : List ℕ
  pub begun : List ℕ
  pub bytes_are : bytes ≡ ended ++ begun
  pub whole : is_whole ended ≡ true
  pub no_feed : has_no_feed begun ≡ true
  pub kept_are : kept ≡ take 1_048_579 begun
  pub size_is : size ≡ length bytes
  pub small : length bytes ≤ 16_777_216
  pub lines_are : lines ≡ length (lines_of ended)
  pub judged : Judged (lines_of ended) state given

-- Since it was made or last ended a document, the reader was fed the bytes and gave the events, and no fault came.
pub record HasRead (reader : Progress) (bytes : List ℕ) (given : List Event) : Type 0 where
  pub reading : Reading reader.state reader.kept reader.size reader.lines bytes given
  pub no_fault : reader.fault ≡ None

-- the reader has answered the fault, and answers it to every call
abbrev pub HasFailed : Progress → ReaderFault → Type 0
HasFailed reader fault = reader.fault ≡ Some fault

-- however the bytes go on, the fault is the verdict
abbrev pub IsFirstFault : List ℕ → ReaderFault → Type 0
IsFirstFault bytes (Doc fault) = (rest : List ℕ) → HasVerdict (bytes ++ rest) (IsFaulty fault.line fault.kind)
IsFirstFault bytes Memory = Unit {0}

-- the fault is the verdict on the bytes
abbrev pub IsLastFault : List ℕ → ReaderFault → Type 0
IsLastFault bytes (Doc fault) = HasVerdict bytes (IsFaulty fault.line fault.kind)
IsLastFault bytes Memory = Unit {0}

-- More events come behind the earlier ones, and the reader has now read these bytes.
abbrev pub ReadsOn : Progress → List ℕ → List Event → List Event → List Event → Type 0
ReadsOn reader bytes given before behind =
    (more : List Event) × (behind ≡ before ++ more) × HasRead reader bytes (given ++ more)

-- All lines of the bytes are judged, and there are so many.
abbrev pub ReadsAll : State → ℕ → List ℕ → List Event → List Event → List Event → Type 0
ReadsAll state lines bytes given before behind =
    (more : List Event) × (behind ≡ before ++ more) × Judged (lines_of bytes) state (given ++ more) × (length (lines_of bytes) ≡ lines)

-- More events come behind the earlier ones. Those of the document are the first of some tree, and are not too many.
abbrev pub GivesOn : List Event → List Event → List Event → Type 0
GivesOn given before behind =
    (more : List Event) × (behind ≡ before ++ more) × BeginsTree (given ++ more) × (length (given ++ more) ≤ 16_777_216)

-- The bytes spell a tree, and with what has come behind the earlier events all events of the tree are given.
abbrev pub EndsTree : List ℕ → List Event → List Event → List Event → Type 0
EndsTree bytes given before behind =
    (root : Root) × (more : List Event) × (behind ≡ before ++ more) × (events_of root ≡ given ++ more) × HasVerdict bytes (IsTree root)

-- By the part the reader reads on, whatever it has read.
abbrev pub ReadsPart : Progress → Progress → List ℕ → List Event → List Event → Type 0
ReadsPart old new part before behind =
    (bytes : List ℕ) (given : List Event) → HasRead old bytes given → ReadsOn new (bytes ++ part) given before behind

-- With what has come behind the earlier events, those of the document begin those of some tree.
abbrev pub GivesMore : Progress → List Event → List Event → Type 0
GivesMore old before behind = (bytes : List ℕ) (given : List Event) → HasRead old bytes given → GivesOn given before behind

-- With the part the fault is the verdict, whatever was read before and however the bytes go on.
abbrev pub FailsBy : Progress → List ℕ → ReaderFault → Type 0
FailsBy old part fault = (bytes : List ℕ) (given : List Event) → HasRead old bytes given → IsFirstFault (bytes ++ part) fault

-- What was read is a whole document, and all events of its tree are given.
abbrev pub EndsWhole : Progress → List Event → List Event → Type 0
EndsWhole old before behind = (bytes : List ℕ) (given : List Event) → HasRead old bytes given → EndsTree bytes given before behind

-- The fault is the verdict on what was read.
abbrev pub FailsAtEnd : Progress → ReaderFault → Type 0
FailsAtEnd old fault = (bytes : List ℕ) (given : List Event) → HasRead old bytes given → IsLastFault bytes fault

-- All lines of what was read are judged, and there are so many.
abbrev pub ReadsLines : Progress → State → ℕ → List Event → List Event → Type 0
ReadsLines old state lines before behind =
    (bytes : List ℕ) (given : List Event) → HasRead old bytes given → ReadsAll state lines bytes given before behind

-- a line's fault as a document's
abbrev pub fault_at : ℕ → LineFault → ReaderFault
fault_at line (Kind kind) = Doc (record { line = line; kind = kind })
fault_at line LineMemory = Memory

-- Where what was read ends with a line, it is a whole document.
abbrev pub IsClosed : Progress → Type 0
IsClosed reader = (bytes : List ℕ) (given : List Event) → HasRead reader bytes given → is_whole bytes ≡ true → (root : Root) × HasVerdict bytes (IsTree root)

-- Where what was read ends with a line, it spells no tree.
abbrev pub IsStillOpen : Progress → Type 0
IsStillOpen reader = (bytes : List ℕ) (given : List Event) → HasRead reader bytes given → is_whole bytes ≡ true → (root : Root) → Spells (lines_of bytes) root → ⊥
