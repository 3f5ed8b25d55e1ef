-- Fronts of what is to be written.
use Rattle.std.specs.Prelude.{ℕ, List, take, Option}
use Rattle.px_io.specs.Flows.{AddsTo}

-- a front part of the piece was added to what was held
abbrev pub AddsFront : (held : Option (List ℕ)) → (piece : List ℕ) → (after : Option (List ℕ)) → Type 0
AddsFront held piece after = (count : ℕ) × AddsTo held (take count piece) after
