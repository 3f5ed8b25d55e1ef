-- Lists of numbers under numbers.
use Rattle.std.specs.Prelude.{ℕ, Bool, false, List, [], map, Option, Some, None, Vec, unwrap_or, nat_eq, slice_get}
use Rattle.std.specs.Global.{Global}

-- the lists that vectors hold
abbrev pub lists_of : List (Vec ℕ Global) → List (List ℕ)
lists_of rows = map (λ row. row.items) rows

-- the list under a number, and none past the last
abbrev pub row : List (List ℕ) → ℕ → List ℕ
row rows key = unwrap_or (slice_get rows key) []

abbrev pub is_key : Option ℕ → ℕ → Bool
is_key None other = false
is_key (Some key) other = nat_eq other key

abbrev pub flat : Option (Option ℕ) → Option ℕ
flat None = None
flat (Some inner) = inner
