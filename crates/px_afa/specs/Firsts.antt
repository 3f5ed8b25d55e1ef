-- The first state of a filter.
use Rattle.std.specs.Prelude.{List, None}
use Rattle.px_xpath.specs.Filters.{Way}
use Rattle.px_afa.specs.declared.state.State.{State}
use Rattle.px_afa.specs.Building.{Made, one_of, way_made}

-- the state of a whole path
abbrev pub first_made : Way → List State → Made
first_made path states = let made = way_made path None states in one_of made.parts made.states
