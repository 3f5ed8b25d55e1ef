-- What a line does that is scanned where it lies.
use Rattle.std.specs.Prelude.{◌≡◌, ℕ, ◌≤◌, ◌<◌, Bool, true, false, not, List, [], ◌∷◌, ◌++◌, length, IsUtf8, Option, Some, None, Result, Ok, Err, if◌then◌else◌}
use Rattle.px_reader.specs.declared.event.Event.{Event}
use Rattle.px_reader.specs.declared.event.Event.TheVariants as event
use Rattle.px_reader.specs.declared.fault.LineFault.{LineFault}
use Rattle.px_reader.specs.declared.phase.Phase.{Phase}
use Rattle.px_reader.specs.declared.phase.Phase.TheVariants as phases
use Rattle.px_reader.specs.declared.scanner.Own.{Own}
use Rattle.px_reader.specs.declared.scanner.Own.TheVariants.{Nothing, Start, Attribute, End}
use Rattle.px_reader.specs.declared.scanner.Told.{Told}
use Rattle.px_reader.specs.declared.scanner.Seen.{Seen}
use Rattle.px_reader.specs.declared.scanner.Seen.TheVariants as seen
use Rattle.px_reader.specs.declared.happening.Happening.{Happening}
use Rattle.px_reader.specs.Happenings.{event_of}
use Rattle.px_reader.specs.declared.lines.Lines.{Lines}
use Rattle.px_reader.specs.declared.scanner.JudgedLine.{JudgedLine}
use Rattle.px_reader.specs.declared.scanner.QuickLine.{QuickLine}
use Rattle.px_reader.specs.declared.scanner.Scanner.{Scanner}
use Rattle.px_reader.specs.declared.scanner.Place.TheVariants as Place
use Rattle.px_reader.specs.Lines.{Line, is_ended}
use Rattle.px_reader.specs.Machine.{State, Before, Attributes, Inside, After}
use Rattle.px_reader.specs.Buffers as buffers
use Rattle.px_reader.specs.Scanned.{bytes_at, IsWithin, run_of, line_to, no_bytes}
use Rattle.px_reader.specs.Stacks.{first_of}
use Rattle.px_reader.specs.States.{open_text, Judging, Takes, Refuses, Bars}

-- the state with these names of open elements, and of attributes, the last first
abbrev pub standing : Phase → (attributes : List (List ℕ)) → (text : List ℕ) → (names : List (List ℕ)) → State
standing phases.Start attributes text [] = Before
standing phases.Giving attributes text [] = After
standing phases.Body attributes text [] = After
standing phases.Start attributes text (name ∷ outer) = Inside [] name outer
standing phases.Giving attributes text (name ∷ outer) = Attributes attributes name outer
standing phases.Body attributes text (name ∷ outer) = Inside text name outer

-- the state of a scanner whose run lies in the piece
abbrev pub state_in : (piece : List ℕ) → Scanner → State
state_in piece scanner = standing scanner.phase scanner.attributes (run_of piece scanner) scanner.names

-- what a line is itself
abbrev pub own_events : Own → (name attribute value : List ℕ) → List Event
own_events Nothing name attribute value = []
own_events Start name attribute value = event.Start name ∷ []
own_events Attribute name attribute value = event.Attr attribute value ∷ []
own_events End name attribute value = event.End ∷ []

abbrev pub told_events : Told → (text name attribute value : List ℕ) → List Event
told_events told text name attribute value = (if told.text then event.Text text ∷ [] else []) ++ own_events told.own name attribute value

-- what was seen
abbrev pub seen_events : Seen → (text name attribute value : List ℕ) → List Event
seen_events seen.Nothing text name attribute value = []
seen_events seen.Text text name attribute value = event.Text text ∷ []
seen_events seen.Start text name attribute value = event.Start name ∷ []
seen_events seen.Attribute text name attribute value = event.Attr attribute value ∷ []
seen_events seen.End text name attribute value = event.End ∷ []

abbrev pub shown_in : (piece : List ℕ) → Seen → Scanner → List Event
shown_in piece shown scanner =
    seen_events shown (bytes_at piece scanner.text.items scanner.run) (first_of scanner.names) (first_of scanner.attributes) (bytes_at piece scanner.unescaped.items scanner.value)

abbrev pub shown_by : Option Happening → List Event
shown_by None = []
shown_by (Some happening) = event_of happening ∷ []

-- what a line brought, by the scanner behind it and the piece
abbrev pub brought_in : (piece : List ℕ) → Told → Scanner → List Event
brought_in piece told scanner =
    told_events told (bytes_at piece scanner.text.items scanner.run) (first_of scanner.names) (first_of scanner.attributes) (bytes_at piece scanner.unescaped.items scanner.value)

-- The line that begins at a place of the piece is taken, if it is text; or nothing has changed.
abbrev pub QuickTakes : (piece : List ℕ) → (at : ℕ) → Scanner → Option QuickLine → Scanner → Type 0
QuickTakes piece at old None new = new ≡ old
QuickTakes piece at old (Some taken) new =
    (at < taken.end) × (taken.end ≤ length piece) × (is_ended (line_to piece at taken.end) ≡ true) × IsWithin piece new.run
    × (IsUtf8 (line_to piece at taken.end) →
    Judging (state_in piece old) (line_to piece at taken.end) (Ok tt) (state_in piece new) [] (brought_in piece taken.told new))

-- The line, which lies in the piece or apart from it, leads to the new state and brings what is told; or it is barred.
abbrev pub JudgesLine : (piece : List ℕ) → Scanner → (line : List ℕ) → Result Told LineFault → Scanner → Type 0
JudgesLine piece old line (Ok told) new = Judging (state_in piece old) line (Ok tt) (state_in piece new) [] (brought_in piece told new)
JudgesLine piece old line (Err fault) new = Bars (state_in piece old) line fault

-- The first line that is not taken is judged, to its end.
abbrev pub JudgesNext : Lines → Scanner → JudgedLine → Scanner → Type 0
JudgesNext lines old judged new =
    (lines.at < judged.end) × (judged.end ≤ length (buffers.piece lines)) × (is_ended (line_to (buffers.piece lines) lines.at judged.end) ≡ true)
    × JudgesLine (buffers.piece lines) old (line_to (buffers.piece lines) lines.at judged.end) judged.brings new

-- the same of what a line without its end is
abbrev pub TakesLine : (piece : List ℕ) → Scanner → Line → Result Told LineFault → Scanner → Type 0
TakesLine piece old line (Ok told) new = Takes (state_in piece old) line (Ok tt) (state_in piece new) [] (brought_in piece told new)
TakesLine piece old line (Err fault) new = Refuses (state_in piece old) line fault

-- The run is ended, and its text is still there.
abbrev pub EndsRun : Scanner → Bool → Scanner → Type 0
EndsRun old says new =
    (new.is_run ≡ false) × (new.phase ≡ phases.Body) × (new.run ≡ old.run) × (new.value ≡ old.value) × (new.text ≡ old.text) × (new.attributes ≡ old.attributes)
    × ((piece : List ℕ) → IsWithin piece old.run → says ≡ not (no_bytes (open_text old.phase (run_of piece old))))

-- The run that is open goes on with these bytes.
abbrev pub Says : (piece : List ℕ) → Scanner → (said : List ℕ) → Scanner → Type 0
Says piece old said new =
    (new.names ≡ old.names) × (new.phase ≡ phases.Body) × (run_of piece new ≡ open_text old.phase (run_of piece old) ++ said)

-- Nothing has changed, but the run lies apart from the piece.
abbrev pub Holds : (piece : List ℕ) → Scanner → Scanner → Type 0
Holds piece old new =
    (new.phase ≡ old.phase) × (new.names ≡ old.names) × (new.attributes ≡ old.attributes) × (new.is_run ≡ old.is_run) × (new.run ≡ Place.Apart)
    × (new.text.items ≡ bytes_at piece old.text.items old.run)

-- A run that lies apart from the piece is open, with the text so far.
abbrev pub BeginsRun : (piece : List ℕ) → Scanner → Scanner → Type 0
BeginsRun piece old new =
    (new.names ≡ old.names) × (new.attributes ≡ old.attributes) × (new.phase ≡ phases.Body) × (new.is_run ≡ true) × (new.run ≡ Place.Apart)
    × (new.text.items ≡ open_text old.phase (run_of piece old))
