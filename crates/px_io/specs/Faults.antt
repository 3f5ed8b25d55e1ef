-- Counts of faults.
use Rattle.std.specs.Prelude.{◌≡◌, ◌<◌, ◌⊎◌, ℕ}

-- a count stays at this value once it is there
abbrev pub last_count : ℕ
last_count = 18_446_744_073_709_551_615

-- A count rose, or a fault came while it stood at its last value.
abbrev pub Rose : ℕ → ℕ → Type 0
Rose before after = (before < after) ⊎ ((before ≡ last_count) × (after ≡ last_count))
