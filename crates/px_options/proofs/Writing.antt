-- Lists of values in which the front is written.
use Rattle.std.proofs.Common.{◌++◌, ℕ, List, Option, option_map}

-- the values before a place, and those that are left
abbrev pub with_front : (values : List ℕ) → Option (List ℕ) → Option (List ℕ)
with_front values left = option_map (λ more. values ++ more) left
