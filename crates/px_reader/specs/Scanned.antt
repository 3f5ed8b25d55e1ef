-- What a line is read off.
use Rattle.std.specs.Prelude.{ℕ, ◌≤◌, ◌-◌, Bool, true, false, List, [], ◌∷◌, take, drop, length, if◌then◌else◌}
use Rattle.px_reader.specs.declared.scanner.Place.{Place}
use Rattle.px_reader.specs.declared.scanner.Place.TheVariants.{Apart, Here}
use Rattle.px_reader.specs.declared.scanner.Scanner.{Scanner}

abbrev pub no_bytes : List ℕ → Bool
no_bytes [] = true
no_bytes (b ∷ bytes) = false

-- the bytes at a place
abbrev pub bytes_at : (piece apart : List ℕ) → Place → List ℕ
bytes_at piece apart Apart = apart
bytes_at piece apart (Here start end) = take (end - start) (drop start piece)

abbrev pub start_of : Place → ℕ
start_of Apart = 0
start_of (Here start end) = start

abbrev pub end_of : Place → ℕ
end_of Apart = 0
end_of (Here start end) = end

-- the place is within the piece
abbrev pub IsWithin : (piece : List ℕ) → Place → Type 0
IsWithin piece place = (start_of place ≤ end_of place) × (end_of place ≤ length piece)

-- the text of the run that is open
abbrev pub run_of : (piece : List ℕ) → Scanner → List ℕ
run_of piece scanner = if scanner.is_run then bytes_at piece scanner.text.items scanner.run else []

-- the bytes from one place to another
abbrev pub line_to : (piece : List ℕ) (at end : ℕ) → List ℕ
line_to piece at end = take (end - at) (drop at piece)
