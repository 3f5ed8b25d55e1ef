-- What has been given where a fault comes.
use Rattle.std.specs.Prelude.{◌≡◌, ℕ, ◌≤◌, ◌-◌, List, ◌++◌, length, take}
use Rattle.px_reader.specs.declared.event.Event.{Event}
use Rattle.px_reader.specs.declared.fault.DocKind.{DocKind}
use Rattle.px_reader.specs.declared.fault.DocKind.TheVariants.{NotHere, NotUtf8, LineLong, TooDeep, TooManyAttributes, TooBig, Truncated}
use Rattle.px_reader.specs.declared.fault.ReaderFault.{ReaderFault}
use Rattle.px_reader.specs.declared.fault.ReaderFault.TheVariants.{Doc, Memory}
use Rattle.px_reader.specs.Judged.{Judged}
use Rattle.px_reader.specs.Lines.{lines_of}
use Rattle.px_reader.specs.Machine.{State}
use Rattle.px_reader.specs.Progress.{Progress}
use Rattle.px_reader.specs.Reading.{HasRead}

-- No line has a fault, and the lines bring exactly these events.
abbrev pub Bring : List (List ℕ) → List Event → Type 0
Bring lines given = (state : State) × Judged lines state given

-- the lines before the line of the fault: all lines where the document is truncated
abbrev pub lines_before : DocKind → (line : ℕ) → List (List ℕ) → List (List ℕ)
lines_before NotHere line lines = take (line - 1) lines
lines_before NotUtf8 line lines = take (line - 1) lines
lines_before LineLong line lines = take (line - 1) lines
lines_before TooDeep line lines = take (line - 1) lines
lines_before TooManyAttributes line lines = take (line - 1) lines
lines_before TooBig line lines = take (line - 1) lines
lines_before Truncated line lines = lines

-- more events come behind the earlier ones
abbrev pub Appends : (before behind : List Event) → Type 0
Appends before behind = (more : List Event) × (behind ≡ before ++ more)

-- With what has come behind the earlier events, exactly what the lines before the fault bring is given; where memory is
-- refused, the front of what some first lines bring.
abbrev pub GivesUpTo : ReaderFault → (bytes : List ℕ) → (given before behind : List Event) → Type 0
GivesUpTo (Doc fault) bytes given before behind =
    (more : List Event) × (behind ≡ before ++ more) × Bring (lines_before fault.kind fault.line (lines_of bytes)) (given ++ more)
GivesUpTo Memory bytes given before behind =
    (more : List Event) × (behind ≡ before ++ more) × ((count : ℕ) × (rest : List Event) × Bring (take count (lines_of bytes)) ((given ++ more) ++ rest))

-- What is given at the fault which the part shows, whatever was read before it.
abbrev pub StopsBy : Progress → (part : List ℕ) → ReaderFault → (before behind : List Event) → Type 0
StopsBy old part fault before behind =
    (bytes : List ℕ) (given : List Event) → HasRead old bytes given → GivesUpTo fault (bytes ++ part) given before behind

-- What is given at the fault which the end shows.
abbrev pub StopsAtEnd : Progress → ReaderFault → (before behind : List Event) → Type 0
StopsAtEnd old fault before behind = (bytes : List ℕ) (given : List Event) → HasRead old bytes given → GivesUpTo fault bytes given before behind

-- With the part at most 16,777,216 bytes are in.
abbrev pub StaysSmall : Progress → (part : List ℕ) → Type 0
StaysSmall old part = (bytes : List ℕ) (given : List Event) → HasRead old bytes given → length (bytes ++ part) ≤ 16_777_216

-- the line at which the fault stands, unless memory was refused
abbrev pub StandsAt : (line : ℕ) → ReaderFault → Type 0
StandsAt line (Doc fault) = fault.line ≡ line
StandsAt line Memory = Unit {0}
