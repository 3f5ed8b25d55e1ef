-- The items of a feed, and how they end.
use Rattle.std.specs.Prelude.{◌≡◌, ℕ, ◌+◌, ◌<◌, ◌≤◌, ◌==◌, true, List, [], ◌∷◌, ◌++◌, length, take, sum_by, IsUtf8, if◌then◌else◌}
use Rattle.px_text.specs.Nodes.{Root}
use Rattle.px_reader.specs.Lines.{Line, Opens, line_of, lines_of, is_outside, is_whole, has_no_feed, without_end, until_space, behind_space}
use Rattle.px_reader.specs.Spelling.{Spells}
use Rattle.px_reader.specs.Verdicts.{Shows, rank}
use Rattle.px_reader.specs.declared.fault.DocKind.TheVariants.{NotHere, NotUtf8, LineLong, Truncated}
use Rattle.px_feed.specs.declared.line.FeedKind.{FeedKind}
use Rattle.px_feed.specs.declared.line.FeedKind.TheVariants.{Doc, FeedLong}

pub data Item : Type 0 where
  -- the text of a filter to add
  Adding : (text : List ℕ) → Item
  -- the text that names the id of a filter to drop
  Removing : (text : List ℕ) → Item
  -- the text that names an id, and that of the filter which takes its place
  Replacing : (id text : List ℕ) → Item
  -- a document to match
  Showing : Root → Item

-- how the items end: with the feed, or at the fault of a line, from 1
pub data Stop : Type 0 where
  AtEnd : Stop
  AtFault : (line : ℕ) → FeedKind → Stop

-- what a line outside documents does
pub data Outside : Type 0 where
  Skips : Outside
  Brings : Item → Outside
  -- it is the first of a document
  Starts : Outside
  Misplaced : Outside

abbrev pub of_kind : Line → Outside
of_kind (Opens name) = Starts
of_kind line = if is_outside line then Skips else Misplaced

-- what a line outside documents does, by what it is without its end: `+`, `~`, `^` and their texts, or a document's line
abbrev pub outside : List ℕ → Outside
outside [] = Skips
outside (b ∷ text) =
    if b == 43 then Brings (Adding text)
    else if b == 126 then Brings (Removing text)
    else if b == 94 then Brings (Replacing (until_space text) (behind_space text))
    else of_kind (line_of (b ∷ text))

-- a feed has at most so many bytes
abbrev pub most_bytes : ℕ
most_bytes = 1_099_511_627_776

abbrev pub bytes_in : List (List ℕ) → ℕ
bytes_in = sum_by length

-- The line, which stands outside documents behind these lines, has this fault.
abbrev pub ShowsOutside : (before : List (List ℕ)) → List ℕ → FeedKind → Type 0
ShowsOutside before line FeedLong = most_bytes < bytes_in before + length line
ShowsOutside before line (Doc LineLong) = 1_048_576 < length (without_end line)
ShowsOutside before line (Doc NotUtf8) = IsUtf8 line → ⊥
ShowsOutside before line (Doc NotHere) = outside (without_end line) ≡ Misplaced
ShowsOutside before line (Doc kind) = ⊥

-- Line k, from 0, of a document that begins behind these lines has this fault.
abbrev pub ShowsInside : (before lines : List (List ℕ)) → ℕ → FeedKind → Type 0
ShowsInside before lines k FeedLong = most_bytes < bytes_in before + bytes_in (take (k + 1) lines)
ShowsInside before lines k (Doc kind) = Shows lines k kind

-- the order in which the faults of one line are judged
abbrev pub feed_rank : FeedKind → ℕ
feed_rank FeedLong = 0
feed_rank (Doc kind) = rank kind + 1

-- of the kinds that show, this is the first
abbrev pub IsFirst : (FeedKind → Type 0) → FeedKind → Type 0
IsFirst Shown kind = Shown kind × ((other : FeedKind) → feed_rank other < feed_rank kind → Shown other → ⊥)

abbrev pub HasNone : (FeedKind → Type 0) → Type 0
HasNone Shown = (kind : FeedKind) → Shown kind → ⊥

-- The first k lines go on with a document that begins behind these lines: none of them has a fault, and its root is still open.
pub record GoesOn (before lines : List (List ℕ)) (k : ℕ) : Type 0 where
  pub fine : (j : ℕ) → j < k → HasNone (ShowsInside before lines j)
  pub still_open : (j : ℕ) (root : Root) → j ≤ k → Spells (take j lines) root → ⊥

-- The lines are a document that begins behind these lines, to the first line with which they spell a tree: the one that closes its root.
pub record IsWhole (before lines : List (List ℕ)) (root : Root) : Type 0 where
  pub fine : (j : ℕ) → j < length lines → HasNone (ShowsInside before lines j)
  pub still_open : (j : ℕ) (other : Root) → j < length lines → Spells (take j lines) other → ⊥
  pub spells : Spells lines root

-- the line begins a document, and has no fault outside it
pub record Begins (before : List (List ℕ)) (line : List ℕ) : Type 0 where
  pub fine : HasNone (ShowsOutside before line)
  pub starts : outside (without_end line) ≡ Starts

-- Behind the lines before, the lines give these items, and then stop so.
pub data Gives : (before lines : List (List ℕ)) → List Item → Stop → Type 0 where
  no_lines : {before : List (List ℕ)} → Gives before [] [] AtEnd
  skips : {before lines : List (List ℕ)} {line : List ℕ} {items : List Item} {stop : Stop} →
      HasNone (ShowsOutside before line) → outside (without_end line) ≡ Skips →
      Gives (before ++ line ∷ []) lines items stop → Gives before (line ∷ lines) items stop
  brings : {before lines : List (List ℕ)} {line : List ℕ} {item : Item} {items : List Item} {stop : Stop} →
      HasNone (ShowsOutside before line) → outside (without_end line) ≡ Brings item →
      Gives (before ++ line ∷ []) lines items stop → Gives before (line ∷ lines) (item ∷ items) stop
  outside_faulty : {before lines : List (List ℕ)} {line : List ℕ} {kind : FeedKind} →
      IsFirst (ShowsOutside before line) kind → Gives before (line ∷ lines) [] (AtFault (length before + 1) kind)
  document : {before document lines : List (List ℕ)} {line : List ℕ} {root : Root} {items : List Item} {stop : Stop} →
      Begins before line → IsWhole before (line ∷ document) root →
      Gives (before ++ line ∷ document) lines items stop → Gives before (line ∷ document ++ lines) (Showing root ∷ items) stop
  inside_faulty : {before lines : List (List ℕ)} {line : List ℕ} {kind : FeedKind} (k : ℕ) →
      Begins before line → k < length (line ∷ lines) → GoesOn before (line ∷ lines) k →
      IsFirst (ShowsInside before (line ∷ lines) k) kind → Gives before (line ∷ lines) [] (AtFault (length before + k + 1) kind)
  -- the number of all lines
  truncated : {before lines : List (List ℕ)} {line : List ℕ} →
      Begins before line → GoesOn before (line ∷ lines) (length (line ∷ lines)) →
      Gives before (line ∷ lines) [] (AtFault (length before + length (line ∷ lines)) (Doc Truncated))

-- the bytes of a feed have these items and stop so
abbrev pub HasItems : (bytes : List ℕ) → List Item → Stop → Type 0
HasItems bytes items stop = Gives [] (lines_of bytes) items stop

-- the lines end between two items, or inside a document
pub data IsOpen : Stop → Type 0 where
  between : IsOpen AtEnd
  in_document : {line : ℕ} → IsOpen (AtFault line (Doc Truncated))

-- The items are those whole in the bytes: the line feed of each one's last line is among them. No line that is whole in
-- the bytes has a fault.
pub record AreWhole (bytes : List ℕ) (items : List Item) : Type 0 where
  pub ended : List ℕ
  pub begun : List ℕ
  pub bytes_are : bytes ≡ ended ++ begun
  pub whole : is_whole ended ≡ true
  pub no_feed : has_no_feed begun ≡ true
  pub stop : Stop
  pub has_items : HasItems ended items stop
  pub open_end : IsOpen stop
