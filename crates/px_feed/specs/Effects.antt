-- What a line outside documents does.
use Rattle.std.specs.Prelude.{◌≡◌, ℕ, ◌<◌, ◌≤◌, List, length, Result, Ok, Err, IsUtf8, if◌then◌else◌}
use Rattle.px_text.specs.Names.{is_letter}
use Rattle.px_reader.specs.Lines.{without_end}
use Rattle.px_reader.specs.Verdicts.{HasVerdict, IsTree}
use Rattle.px_reader.specs.Documents.{content}
use Rattle.px_reader.specs.declared.fault.DocKind.TheVariants.{NotHere, NotUtf8, LineLong}
use Rattle.px_reader.specs.declared.fault.LineFault.{LineFault}
use Rattle.px_reader.specs.declared.fault.LineFault.TheVariants.{Kind, LineMemory}
use Rattle.px_feed.specs.declared.item.Item.{Item as Given}
use Rattle.px_feed.specs.declared.item.Item.TheVariants.{Add, Remove, Replace, Document}
use Rattle.px_feed.specs.declared.outside.Effect.{Effect}
use Rattle.px_feed.specs.declared.outside.Effect.TheVariants.{Nothing, Gives as GivesItem, Begins as BeginsDocument}
use Rattle.px_feed.specs.Items.{Item, Adding, Removing, Replacing, Showing, Outside, Skips, Brings, Starts, Misplaced, outside}

-- the item of the program is this one of the feed
abbrev pub IsItem : Given → Item → Type 0
IsItem (Add text) (Adding t) = text ≡ t
IsItem (Remove text) (Removing t) = text ≡ t
IsItem (Replace id text) (Replacing i t) = (id ≡ i) × (text ≡ t)
IsItem (Document doc) (Showing root) = HasVerdict (content doc) (IsTree root)
IsItem _ _ = ⊥

-- this is what a line does, or it is misplaced
abbrev pub Does : Result Effect LineFault → Outside → Type 0
Does (Ok Nothing) Skips = Unit {0}
Does (Ok (GivesItem item)) (Brings brought) = IsItem item brought
Does (Ok BeginsDocument) Starts = Unit {0}
Does (Err (Kind NotHere)) Misplaced = Unit {0}
Does (Err LineMemory) _ = Unit {0}
Does _ _ = ⊥

-- what a line outside documents does whose first byte has no meaning of its own
abbrev pub passed_by : ℕ → Outside
passed_by first = if is_letter first then Skips else Misplaced

-- a line with its end is not too long, and is text
abbrev pub IsFit : List ℕ → Type 0
IsFit line = (length (without_end line) ≤ 1_048_576) × IsUtf8 line

-- this is what a line with its end does, or why it may not stand outside documents
abbrev pub DoesFit : Result Effect LineFault → List ℕ → Type 0
DoesFit (Ok effect) line = IsFit line × Does (Ok effect) (outside (without_end line))
DoesFit (Err (Kind LineLong)) line = 1_048_576 < length (without_end line)
DoesFit (Err (Kind NotUtf8)) line = (length (without_end line) ≤ 1_048_576) × (IsUtf8 line → ⊥)
DoesFit (Err fault) line = IsFit line × Does (Err fault) (outside (without_end line))
