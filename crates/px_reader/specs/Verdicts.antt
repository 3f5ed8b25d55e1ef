-- What a document's bytes are: a tree, or the first fault.
use Rattle.std.specs.Prelude.{◌≡◌, ℕ, ◌+◌, ◌-◌, ◌<◌, Bool, true, false, List, [], ◌∷◌, ◌++◌, length, take, sum_by, slice_get, Some, IsUtf8, count_by}
use Rattle.px_text.specs.Nodes.{Root}
use Rattle.px_reader.specs.Lines.{Line, Opens, Closes, Gives, lines_of, without_end}
use Rattle.px_reader.specs.Spelling.{Spells, kinds, events_of}
use Rattle.px_reader.specs.declared.event.Event.{Event}
use Rattle.px_reader.specs.declared.fault.DocKind.{DocKind}
use Rattle.px_reader.specs.declared.fault.DocKind.TheVariants.{NotHere, NotUtf8, LineLong, TooDeep, TooManyAttributes, TooBig, Truncated}

-- some lines after these make them spell some tree
abbrev pub Begins : List (List ℕ) → Type 0
Begins lines = (more : List (List ℕ)) × (root : Root) × Spells (lines ++ more) root

abbrev pub opens : Line → Bool
opens (Opens name) = true
opens _ = false

abbrev pub closes : Line → Bool
closes (Closes name) = true
closes _ = false

-- how many elements are open behind the lines
abbrev pub depth : List Line → ℕ
depth lines = count_by opens lines - count_by closes lines

-- how many attributes stand at the end of the lines
abbrev pub attributes_behind : ℕ → List Line → ℕ
attributes_behind n [] = n
attributes_behind n (Gives name value ∷ lines) = attributes_behind (n + 1) lines
attributes_behind n (_ ∷ lines) = attributes_behind 0 lines

-- Line k, from 0, of the lines has this fault.
abbrev pub Shows : List (List ℕ) → ℕ → DocKind → Type 0
Shows lines k TooBig = 16_777_216 < sum_by length (take (k + 1) lines)
Shows lines k LineLong = (line : List ℕ) × (slice_get lines k ≡ Some line) × (1_048_576 < length (without_end line))
Shows lines k NotUtf8 = (line : List ℕ) × (slice_get lines k ≡ Some line) × (IsUtf8 line → ⊥)
Shows lines k NotHere = Begins (take k lines) × (Begins (take (k + 1) lines) → ⊥)
Shows lines k TooDeep = 512 < depth (kinds (take (k + 1) lines))
Shows lines k TooManyAttributes = 256 < attributes_behind 0 (kinds (take (k + 1) lines))
Shows lines k Truncated = ⊥

-- the order in which the faults of one line are judged
abbrev pub rank : DocKind → ℕ
rank TooBig = 0
rank LineLong = 1
rank NotUtf8 = 2
rank NotHere = 3
rank TooDeep = 4
rank TooManyAttributes = 5
rank Truncated = 6

abbrev pub IsFine : List (List ℕ) → ℕ → Type 0
IsFine lines k = (kind : DocKind) → Shows lines k kind → ⊥

pub data Verdict : Type 0 where
  -- the line, from 1
  IsFaulty : (line : ℕ) → DocKind → Verdict
  IsTree : Root → Verdict

-- This is the verdict on the lines.
abbrev pub Judges : List (List ℕ) → Verdict → Type 0
Judges lines (IsTree root) = ((k : ℕ) → k < length lines → IsFine lines k) × Spells lines root
Judges lines (IsFaulty line Truncated) =
    ((k : ℕ) → k < length lines → IsFine lines k) × ((root : Root) → Spells lines root → ⊥) × (line ≡ length lines)
Judges lines (IsFaulty line kind) =
    (k : ℕ) × (line ≡ k + 1) × (k < length lines) × ((j : ℕ) → j < k → IsFine lines j)
    × Shows lines k kind × ((other : DocKind) → rank other < rank kind → Shows lines k other → ⊥)

abbrev pub HasVerdict : List ℕ → Verdict → Type 0
HasVerdict bytes verdict = Judges (lines_of bytes) verdict

-- the bytes spell a tree, within the limits
abbrev pub SpellsTree : List ℕ → Type 0
SpellsTree bytes = ∥ ((root : Root) × HasVerdict bytes (IsTree root)) ∥₁

-- the events are those of the tree that the bytes spell, if they spell one
abbrev pub AreTreeEvents : List ℕ → List Event → Type 0
AreTreeEvents bytes given = (root : Root) → HasVerdict bytes (IsTree root) → given ≡ events_of root

-- The bytes spell a tree, and these are its events.
pub record AreEvents (bytes : List ℕ) (given : List Event) : Type 0 where
  pub root : Root
  pub verdict : HasVerdict bytes (IsTree root)
  pub events_are : given ≡ events_of root
