-- What stands at the end of a path.
use Rattle.std.specs.Prelude.{ℕ, Option, Some, None}
use Rattle.std.specs.Borrow.{Bor}
use Rattle.px_xpath.specs.declared.filter.Relation.{Relation}
use Rattle.px_xpath.specs.declared.filter.Value.{Value}

-- the comparison that code has by reference
abbrev pub end_of : Option (Relation × Bor Value) → Option (Relation × Value)
end_of None = None
end_of (Some end) = Some (end.0, end.1.now)

-- how many states it takes
abbrev pub end_size : Option (Relation × Bor Value) → ℕ
end_size None = 0
end_size (Some end) = 1
