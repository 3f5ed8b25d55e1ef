-- What the marks of events stand for.
use Rattle.std.specs.Prelude.{ℕ, ◌≤◌, ◌-◌, List, [], ◌∷◌, take, drop, map}
use Rattle.px_reader.specs.declared.event.Event.{Event}
use Rattle.px_reader.specs.declared.event.Event.TheVariants as owned
use Rattle.px_reader.specs.declared.event_list.Mark.{Mark}
use Rattle.px_reader.specs.declared.event_list.MarkKind.{MarkKind}
use Rattle.px_reader.specs.declared.event_list.MarkKind.TheVariants.{Start, Attribute, Text, End}

-- the bytes from one place to another
abbrev pub part_of : (bytes : List ℕ) (start end : ℕ) → List ℕ
part_of bytes start end = take (end - start) (drop start bytes)

-- the event of this kind with this name or text, and this value
abbrev pub made_of : MarkKind → (first second : List ℕ) → Event
made_of Start first second = owned.Start first
made_of Attribute first second = owned.Attr first second
made_of Text first second = owned.Text first
made_of End first second = owned.End

-- the event that a mark on these bytes stands for
abbrev pub marked : (bytes : List ℕ) → Mark → Event
marked bytes mark = made_of mark.kind (part_of bytes mark.start mark.middle) (part_of bytes mark.middle mark.end)

abbrev pub marked_all : (bytes : List ℕ) → List Mark → List Event
marked_all bytes marks = map (marked bytes) marks

-- a mark on so many bytes
pub record IsMark (count : ℕ) (mark : Mark) : Type 0 where
  pub first : mark.start ≤ mark.middle
  pub second : mark.middle ≤ mark.end
  pub within : mark.end ≤ count

-- marks on so many bytes
abbrev pub AreWithin : (count : ℕ) → List Mark → Type 0
AreWithin count [] = Unit {0}
AreWithin count (mark ∷ marks) = IsMark count mark × AreWithin count marks
