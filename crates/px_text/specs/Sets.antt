-- Sets of numbers below 2^20, as strictly rising lists.
use Rattle.std.specs.Prelude.{ℕ, ◌<◌, Bool, List, [], ◌∷◌, nat_eq}
use Rattle.std.specs.List.{list_any}

-- the number is below the first of the list
abbrev pub Above : ℕ → List ℕ → Type 0
Above n [] = Unit {0}
Above n (x ∷ xs) = n < x

-- the numbers rise, and each is below 2^20
abbrev pub Rising : List ℕ → Type 0
Rising [] = Unit {0}
Rising (x ∷ xs) = (x < 1048576) × Above x xs × Rising xs

-- the number is in the list
abbrev pub has : List ℕ → ℕ → Bool
has set n = list_any (λ m. nat_eq m n) set
