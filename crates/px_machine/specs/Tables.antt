-- What a table was told.
use Rattle.std.specs.Prelude.{◌≡◌, ℕ, ◌*◌, true, List, Some, slice_get}
use Rattle.std.specs.Vec.{vec_capacity}
use Rattle.px_machine.specs.declared.table.Entry.{Entry}
use Rattle.px_machine.specs.declared.table.Table.{Table}

-- the entry stands at some place
abbrev pub IsIn : List Entry → Entry → Type 0
IsIn entries entry = (place : ℕ) × (slice_get entries place ≡ Some entry)

-- the entry for an answer under two numbers
abbrev pub told : (first second answer : ℕ) → Entry
told first second answer = record { first = first; second = second; answer = answer; is_told = true }

-- The table answers so under these two numbers.
abbrev pub Tells : Table → (first second answer : ℕ) → Type 0
Tells table first second answer = IsIn table.entries.items (told first second answer)

-- the bytes that it takes
abbrev pub bytes_of : Table → ℕ
bytes_of table = 16 * vec_capacity table.entries
