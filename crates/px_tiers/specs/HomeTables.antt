-- Homes as a table of numbers, under the ids.
use Rattle.std.specs.Prelude.{ℕ, List, get_or}
use Rattle.px_tiers.specs.Parts.{Homes}

-- an id behind the table has none
abbrev pub home_of : List ℕ → Homes
home_of numbers = λ id. get_or numbers id 0
