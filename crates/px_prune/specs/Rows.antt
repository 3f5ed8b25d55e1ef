-- Rows of numbers, one behind the other.
use Rattle.std.specs.Prelude.{ℕ, ◌≤◌, ◌-◌, List, [], ◌∷◌, take, drop}
use Rattle.px_prune.specs.declared.needs.Row.{Row}

abbrev pub row_in : List ℕ → Row → List ℕ
row_in items row = take (row.end - row.start) (drop row.start items)

-- each row ends within so many items
abbrev pub AreWithin : ℕ → List Row → Type 0
AreWithin size [] = Unit {0}
AreWithin size (row ∷ rows) = (row.start ≤ row.end) × (row.end ≤ size) × AreWithin size rows
