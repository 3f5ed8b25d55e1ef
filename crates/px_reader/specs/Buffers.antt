-- The bytes that are not taken yet.
use Rattle.std.specs.Prelude.{◌≡◌, ℕ, ◌<◌, ◌+◌, ◌-◌, true, List, ◌++◌, length, take, drop}
use Rattle.px_reader.specs.declared.lines.Lines.{Lines}
use Rattle.px_reader.specs.declared.lines.PushFault.{PushFault}
use Rattle.px_reader.specs.declared.lines.PushFault.TheVariants.{Memory, LineLong}
use Rattle.px_reader.specs.Lines.{has_no_feed, is_ended}

-- the whole lines among them
abbrev pub ready : Lines → List ℕ
ready lines = take (lines.whole - lines.at) (drop lines.at lines.bytes.items)

-- what is kept of the line that has begun
abbrev pub kept : Lines → List ℕ
kept lines = drop lines.whole lines.bytes.items

-- how many bytes the line has that has begun
abbrev pub begun_size : Lines → ℕ
begun_size lines = length lines.bytes.items - lines.whole + lines.lost

-- all whole lines, among them those that are taken
abbrev pub piece : Lines → List ℕ
piece lines = take lines.whole lines.bytes.items

-- Of a begun line the first bytes are kept, and the others are counted.
pub record Keeps (kept : List ℕ) (lost : ℕ) (begun : List ℕ) : Type 0 where
  pub no_feed : has_no_feed begun ≡ true
  pub kept_are : kept ≡ take 1_048_579 begun
  pub lost_are : lost ≡ length begun - 1_048_579

-- These are the bytes that were pushed and not taken.
pub record IsUnread (lines : Lines) (unread : List ℕ) : Type 0 where
  pub begun : List ℕ
  pub unread_is : unread ≡ ready lines ++ begun
  pub keeps : Keeps (kept lines) lines.lost begun

-- the line is taken, and the rest stays
abbrev pub TakesFirst : Lines → (line : List ℕ) → Lines → Type 0
TakesFirst old line new =
    (unread : List ℕ) → IsUnread old unread → (rest : List ℕ) × (unread ≡ line ++ rest) × IsUnread new rest

-- the piece stands behind what was unread
abbrev pub Adds : Lines → (piece : List ℕ) → Lines → Type 0
Adds old piece new = (unread : List ℕ) → IsUnread old unread → IsUnread new (unread ++ piece)

-- The line that had begun ends in the piece, has so many bytes, and is too long.
abbrev pub EndsLong : (unread piece : List ℕ) (size : ℕ) → Type 0
EndsLong unread piece size =
    (line : List ℕ) × (rest : List ℕ) × (unread ++ piece ≡ line ++ rest) × (is_ended line ≡ true) × (size ≡ length line) × (1_048_579 < size)

-- why the piece does not stand behind what was unread
abbrev pub LosesLine : Lines → (piece : List ℕ) → PushFault → Type 0
LosesLine old piece Memory = Unit {0}
LosesLine old piece (LineLong size) = (unread : List ℕ) → IsUnread old unread → EndsLong unread piece size
