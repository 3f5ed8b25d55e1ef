-- A map from states to their numbers.
use Rattle.std.specs.Prelude.{◌≡◌, ℕ, List}
use Rattle.std.specs.BTreeMap.{BTreeMap, get}
use Rattle.px_afa.specs.declared.state.State.{State}
use Rattle.px_afa.specs.contracts.state.StateOrd.TheImpl as order
use Rattle.px_afa.specs.Building.{number_of}

-- the map finds each state where a search through the states finds it
abbrev pub AreNumbered : (states : List State) → BTreeMap State ℕ → Type 0
AreNumbered states numbers = (s : State) → get order.cmp-value.it numbers s ≡ number_of s states
