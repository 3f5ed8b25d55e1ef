-- What a read takes from the bytes that are left, and a write adds to those that are held. Where nothing is told of the bytes, nothing is told afterwards.
use Rattle.std.specs.Prelude.{◌≡◌, ◌<◌, ◌≤◌, ◌++◌, ℕ, List, [], length, take, Option, option_map}
use Rattle.px_io.specs.declared.source.ReadAnswer.{ReadAnswer}
use Rattle.px_io.specs.declared.source.ReadAnswer.TheVariants.{Got, End, Failed}
use Rattle.px_io.specs.declared.sink.WriteAnswer.{WriteAnswer}
use Rattle.px_io.specs.declared.sink.WriteAnswer.TheVariants as write

-- the bytes were taken from the front of those that were left
abbrev pub TakesFrom : (left : Option (List ℕ)) → (bytes : List ℕ) → (after : Option (List ℕ)) → Type 0
TakesFrom left bytes after = left ≡ option_map (λ rest. bytes ++ rest) after

-- the bytes were added behind those that were held
abbrev pub AddsTo : (held : Option (List ℕ)) → (bytes : List ℕ) → (after : Option (List ℕ)) → Type 0
AddsTo held bytes after = after ≡ option_map (λ bytes_held. bytes_held ++ bytes) held

-- nothing is left, where it is told
abbrev pub IsSpent : Option (List ℕ) → Type 0
IsSpent left = left ≡ option_map (λ _. []) left

-- what a read with this answer wrote to the buffer, and what it left
abbrev pub GivesNext : ReadAnswer → (buffer : List ℕ) → (left after : Option (List ℕ)) → Type 0
GivesNext (Got count) buffer left after = (0 < count) × (count ≤ length buffer) × TakesFrom left (take count buffer) after
GivesNext End buffer left after = IsSpent left × (after ≡ left)
GivesNext Failed buffer left after = after ≡ left

-- what a write with this answer took of the piece, and what is held behind it
abbrev pub TakesFront : WriteAnswer → (piece : List ℕ) → (held after : Option (List ℕ)) → Type 0
TakesFront (write.Took count) piece held after =
    (count ≤ length piece) × (0 < length piece → 0 < count) × AddsTo held (take count piece) after
TakesFront write.Failed piece held after = after ≡ held
TakesFront write.Memory piece held after = after ≡ held

-- the whole piece was taken, or there was no memory
abbrev pub TakesWhole : WriteAnswer → (piece : List ℕ) → Type 0
TakesWhole (write.Took count) piece = count ≡ length piece
TakesWhole write.Failed piece = ⊥
TakesWhole write.Memory piece = Unit {0}
