-- The machine over some events, worked out.
use Rattle.std.specs.Prelude.{◌≡◌, List, [], ◌∷◌, codes, refl, length}
use Rattle.px_reader.specs.declared.event.Event.{Event}
use Rattle.px_reader.specs.declared.event.Event.TheVariants.{Start, Attr, Text, End}
use Rattle.px_xpath.specs.declared.filter.Axis.TheVariants.{Child, Below}
use Rattle.px_xpath.specs.declared.filter.Test.TheVariants as test
use Rattle.px_xpath.specs.Filters.{Arrived, StepThen, Selects, Fails, NoConditions, CondThen}
use Rattle.px_afa.specs.Building.{Automata, automata}
use Rattle.px_afa.specs.Sets.{accept}
use Rattle.px_runner.specs.Events.{ground, after_events, events_steps}

-- `/a`, `//b` and `/a[not(b)]` with the ids 1, 2 and 3
abbrev three : Automata
three = automata (
    record { id = 1; filter = StepThen Child (test.Element (codes "a")) NoConditions Arrived }
    ∷ record { id = 2; filter = StepThen Below (test.Element (codes "b")) NoConditions Arrived }
    ∷ record { id = 3; filter = StepThen Child (test.Element (codes "a")) (CondThen (Fails (Selects (StepThen Child (test.Element (codes "b")) NoConditions Arrived))) NoConditions) Arrived }
    ∷ [])

abbrev events : List Event
events = Start (codes "a") ∷ Start (codes "b") ∷ End ∷ End ∷ []

first_three : accept three.firsts (after_events three.states (ground three) events).innermost.gathered ≡ 1 ∷ 2 ∷ []
first_three = refl

three_steps : length (events_steps three.states (ground three) events) ≡ 16
three_steps = refl

-- the text of an element has that of its child, and no attribute
texts : (after_events three.states (ground three) (Start (codes "a") ∷ Attr (codes "k") (codes "v") ∷ Text (codes "x") ∷ Start (codes "b") ∷ Text (codes "y") ∷ End ∷ [])).innermost.text ≡ codes "xy"
texts = refl
