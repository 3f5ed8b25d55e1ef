-- The steps that events bring, counted by their kinds and by how many elements are open.
use Rattle.std.specs.Prelude.{◌≡◌, ℕ, ◌+◌, ◌-◌, ◌==◌, if◌then◌else◌, List, length}
use Rattle.px_reader.specs.declared.event.Event.{Event}
use Rattle.px_reader.specs.declared.event.Event.TheVariants.{Start, Attr, Text, End}
use Rattle.px_afa.specs.Building.{Automata}
use Rattle.px_runner.specs.Events.{ground, after_events}
use Rattle.px_machine.specs.Machines.{HasRun}
use Rattle.px_call.specs.Calls.{steps_brought}
use Rattle.px_hub.specs.declared.lone.Lone.{Lone}

-- how many steps an event brings while so many elements are open
abbrev pub steps_at : (depth : ℕ) → Event → ℕ
steps_at depth (Start name) = 1
steps_at depth (Attr name value) = 6
steps_at depth (Text text) = 6
steps_at depth End = if depth == 0 then 0 else 7

-- how many elements are open behind it
abbrev pub depth_behind : (depth : ℕ) → Event → ℕ
depth_behind depth (Start name) = depth + 1
depth_behind depth (Attr name value) = depth
depth_behind depth (Text text) = depth
depth_behind depth End = depth - 1

-- how many elements are open behind some events
abbrev pub depth_of : Automata → List Event → ℕ
depth_of automata given = length (after_events automata.states (ground automata) given).outer

-- Its machine has taken the events for the program, and its count is that of the steps that they bring
pub record HasCounted (lone : Lone) (automata : Automata) (given : List Event) : Type 0 where
  pub run : HasRun lone.machine automata given
  pub depth : lone.depth ≡ depth_of automata given
  pub steps : lone.steps ≡ length (steps_brought automata given)
