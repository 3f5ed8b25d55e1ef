-- Names that stand behind one another.
use Rattle.std.specs.Prelude.{ℕ, ◌≤◌, Bool, true, false, List, [], ◌∷◌, take, drop}

-- the names that begin at these places, the last first
abbrev pub names_in : (bytes starts : List ℕ) → List (List ℕ)
names_in bytes [] = []
names_in bytes (start ∷ starts) = drop start bytes ∷ names_in (take start bytes) starts

-- each place lies within the bytes before the next
abbrev pub AreCut : (count : ℕ) (starts : List ℕ) → Type 0
AreCut count [] = Unit {0}
AreCut count (start ∷ starts) = (start ≤ count) × AreCut start starts

abbrev pub first_of : List (List ℕ) → List ℕ
first_of [] = []
first_of (name ∷ names) = name

abbrev pub behind_first : List (List ℕ) → List (List ℕ)
behind_first [] = []
behind_first (name ∷ names) = names

abbrev pub is_none : List (List ℕ) → Bool
is_none [] = true
is_none (name ∷ names) = false
