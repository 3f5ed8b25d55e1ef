-- Values in the ranges of options.
use Rattle.std.specs.Prelude.{◌≡◌, ℕ, ◌≤◌, List, [], ◌∷◌, Some}
use Rattle.px_options.specs.OptionWords.{Rule}

-- the value is in the range of the option
abbrev pub IsWithin : Rule → ℕ → Type 0
IsWithin rule value = (rule.least ≤ value) × (value ≤ rule.most)

abbrev pub AreWithin : List Rule → List ℕ → Type 0
AreWithin [] [] = Unit {0}
AreWithin (rule ∷ rules) (value ∷ values) = IsWithin rule value × AreWithin rules values
AreWithin _ _ = ⊥

-- each value that need not be given is in the range
abbrev pub HaveDefaults : List Rule → Type 0
HaveDefaults [] = Unit {0}
HaveDefaults (rule ∷ rules) = ((value : ℕ) → rule.otherwise ≡ Some value → IsWithin rule value) × HaveDefaults rules
