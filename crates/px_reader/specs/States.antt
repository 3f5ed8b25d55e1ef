-- The state that the reader's machine is in, and what a line does to it.
use Rattle.std.specs.Prelude.{◌≡◌, ℕ, ◌<◌, ◌≤◌, length, IsUtf8, Bool, true, false, List, [], ◌++◌, Option, Some, None, Result, Ok, Err}
use Rattle.px_reader.specs.declared.event.Event.{Event}
use Rattle.px_reader.specs.declared.fault.DocKind.TheVariants.{NotHere, NotUtf8, LineLong, TooDeep, TooManyAttributes, TooBig, Truncated}
use Rattle.px_reader.specs.declared.fault.LineFault.{LineFault}
use Rattle.px_reader.specs.declared.fault.LineFault.TheVariants.{Kind, LineMemory}
use Rattle.px_reader.specs.declared.phase.Phase.{Phase}
use Rattle.px_reader.specs.declared.phase.Phase.TheVariants.{Start, Giving, Body}
use Rattle.px_reader.specs.Lines.{Line, line_of, without_end, Opens, Closes, Gives, Says, Passed, Empty, Odd}
use Rattle.px_reader.specs.Machine.{State, Before, Attributes, Inside, After, Step, step, open_in, attributes_in}

-- the text of the run that is open
abbrev pub open_text : Phase → List ℕ → List ℕ
open_text Start text = []
open_text Giving text = []
open_text Body text = text

abbrev pub is_after : State → Bool
is_after Before = false
is_after (Attributes names name outer) = false
is_after (Inside text name outer) = false
is_after After = true

-- attributes of the innermost element may come
abbrev pub is_giving : State → Bool
is_giving Before = false
is_giving (Attributes names name outer) = true
is_giving (Inside text name outer) = false
is_giving After = false

-- what a line leads to and what it brings; an empty line is passed over
abbrev pub line_step : State → Line → Option Step
line_step state Empty = Some (state, [])
line_step state (Opens name) = step state (Opens name)
line_step state (Closes name) = step state (Closes name)
line_step state (Gives name value) = step state (Gives name value)
line_step state (Says text) = step state (Says text)
line_step state Passed = step state Passed
line_step state Odd = step state Odd

-- a line that opens an element or gives an attribute finds room for it
abbrev pub HasRoom : State → Line → Type 0
HasRoom state (Opens name) = open_in state < 512
HasRoom state (Gives name value) = attributes_in state < 256
HasRoom state (Closes name) = Unit {0}
HasRoom state (Says text) = Unit {0}
HasRoom state Passed = Unit {0}
HasRoom state Empty = Unit {0}
HasRoom state Odd = Unit {0}

-- a document may not go on from the state by the line, for this reason
abbrev pub Refuses : State → Line → LineFault → Type 0
Refuses state line (Kind NotHere) = line_step state line ≡ None
Refuses state line (Kind TooDeep) = (found : Step) × (step state line ≡ Some found) × (512 < open_in found.0)
Refuses state line (Kind TooManyAttributes) = (found : Step) × (step state line ≡ Some found) × (256 < attributes_in found.0)
Refuses state line (Kind NotUtf8) = ⊥
Refuses state line (Kind LineLong) = ⊥
Refuses state line (Kind TooBig) = ⊥
Refuses state line (Kind Truncated) = ⊥
Refuses state line LineMemory = Unit {0}

-- The line leads to the new state and its events come behind the earlier ones; or it is refused, and there are no more events.
abbrev pub Takes : State → Line → Result (Unit {0}) LineFault → State → List Event → List Event → Type 0
Takes old line (Ok _) new before behind =
    HasRoom old line × ((brought : List Event) × (line_step old line ≡ Some (new, brought)) × (behind ≡ before ++ brought))
Takes old line (Err fault) new before behind = Refuses old line fault × (behind ≡ before)

-- a line with its end is not too long, and is text
abbrev pub IsFit : List ℕ → Type 0
IsFit line = (length (without_end line) ≤ 1_048_576) × IsUtf8 line

-- a line with its end may not stand behind the state, for this reason
abbrev pub Bars : State → List ℕ → LineFault → Type 0
Bars state line (Kind LineLong) = 1_048_576 < length (without_end line)
Bars state line (Kind NotUtf8) = (length (without_end line) ≤ 1_048_576) × (IsUtf8 line → ⊥)
Bars state line (Kind NotHere) = IsFit line × Refuses state (line_of (without_end line)) (Kind NotHere)
Bars state line (Kind TooDeep) = IsFit line × Refuses state (line_of (without_end line)) (Kind TooDeep)
Bars state line (Kind TooManyAttributes) = IsFit line × Refuses state (line_of (without_end line)) (Kind TooManyAttributes)
Bars state line (Kind TooBig) = ⊥
Bars state line (Kind Truncated) = ⊥
Bars state line LineMemory = Unit {0}

-- The line is taken and leads to the new state, or it is barred.
abbrev pub Judging : State → List ℕ → Result (Unit {0}) LineFault → State → List Event → List Event → Type 0
Judging old line (Ok taken) new before behind = IsFit line × Takes old (line_of (without_end line)) (Ok taken) new before behind
Judging old line (Err fault) new before behind = Bars old line fault × (behind ≡ before)
