-- The reader's machine: what it keeps between two lines, and what a line does.
use Rattle.std.specs.Prelude.{ℕ, ◌+◌, List, [], ◌∷◌, ◌++◌, length, Option, Some, None, option_map, option_and_then, bytes_eq, if◌then◌else◌}
use Rattle.px_reader.specs.declared.event.Event.{Event}
use Rattle.px_reader.specs.declared.event.Event.TheVariants.{Start, Attr, Text, End}
use Rattle.px_reader.specs.Lines.{Line, Opens, Closes, Gives, Says, Passed, Empty, Odd, is_outside}
use Rattle.px_reader.specs.Spelling.{is_among}

pub data State : Type 0 where
  Before : State
  -- behind the first line of an element: the names that its attributes have, its own, and those of the elements round it
  Attributes : (names : List (List ℕ)) → (name : List ℕ) → (outer : List (List ℕ)) → State
  -- in its body: the text of the run so far
  Inside : (text : List ℕ) → (name : List ℕ) → (outer : List (List ℕ)) → State
  After : State

abbrev pub Step : Type 0
Step = State × List Event

-- the event of a run of texts that has ended
abbrev pub text_event : List ℕ → List Event
text_event [] = []
text_event (b ∷ text) = Text (b ∷ text) ∷ []

-- the state behind the last line of an element
abbrev pub closed : List (List ℕ) → State
closed [] = After
closed (name ∷ outer) = Inside [] name outer

abbrev pub step_outside : State → Line → Option Step
step_outside state line = if is_outside line then Some (state, []) else None

abbrev pub step_inside : List ℕ → List ℕ → List (List ℕ) → Line → Option Step
step_inside text name outer (Opens child) = Some (Attributes [] child (name ∷ outer), text_event text ++ Start child ∷ [])
step_inside text name outer (Closes closing) = if bytes_eq closing name then Some (closed outer, text_event text ++ End ∷ []) else None
step_inside text name outer (Says more) = Some (Inside (text ++ more) name outer, [])
step_inside text name outer Passed = Some (Inside [] name outer, text_event text)
step_inside text name outer (Gives _ _) = None
step_inside text name outer Empty = None
step_inside text name outer Odd = None

abbrev pub step : State → Line → Option Step
step Before (Opens name) = Some (Attributes [] name [], Start name ∷ [])
step Before line = step_outside Before line
step (Attributes names name outer) (Gives given value) =
    if is_among given names then None else Some (Attributes (given ∷ names) name outer, Attr given value ∷ [])
step (Attributes names name outer) line = step_inside [] name outer line
step (Inside text name outer) line = step_inside text name outer line
step After line = step_outside After line

-- the events that lines bring which end a document, from a state
abbrev pub accepts : State → List Line → Option (List Event)
accepts After [] = Some []
accepts _ [] = None
accepts state (line ∷ lines) =
    option_and_then (λ found. option_map (λ more. found.1 ++ more) (accepts found.0 lines)) (step state line)

-- the state behind lines, if they lead to one
abbrev pub reaches : State → List Line → Option State
reaches state [] = Some state
reaches state (line ∷ lines) = option_and_then (λ found. reaches found.0 lines) (step state line)

-- the state behind lines and the events that they bring, if they lead to one
abbrev pub runs : State → List Line → Option Step
runs state [] = Some (state, [])
runs state (line ∷ lines) =
    option_and_then (λ found. option_map (λ last. (last.0, found.1 ++ last.1)) (runs found.0 lines)) (step state line)

-- how many elements are open
abbrev pub open_in : State → ℕ
open_in Before = 0
open_in (Attributes names name outer) = length outer + 1
open_in (Inside text name outer) = length outer + 1
open_in After = 0

-- how many attributes the innermost element has, while more may come
abbrev pub attributes_in : State → ℕ
attributes_in Before = 0
attributes_in (Attributes names name outer) = length names
attributes_in (Inside text name outer) = 0
attributes_in After = 0
