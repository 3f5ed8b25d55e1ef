-- Lists of numbers under numbers, and the bytes that they take.
use Rattle.std.specs.Prelude.{◌≡◌, ℕ, ◌+◌, ◌-◌, ◌<◌, ◌≤◌, ◌⊎◌, List, [], ◌∷◌, ◌++◌, length, take, drop}
use Rattle.px_text.specs.Sets.{Rising}
use Rattle.px_afa.specs.Lists.{row}
use Rattle.px_machine.specs.declared.lists.Span.{Span}

-- lists by their numbers, and the bytes that they take
pub record Shelf : Type 0 where
  pub lists : List (List ℕ)
  pub bytes : ℕ

-- Each list stays under its number.
pub record Grows (old new : List (List ℕ)) : Type 0 where
  pub longer : length old ≤ length new
  pub stays : (n : ℕ) → n < length old → row new n ≡ row old n

-- the same lists, or this one behind them
abbrev pub IsSameOrMore : (old : List (List ℕ)) → (list : List ℕ) → (new : List (List ℕ)) → Type 0
IsSameOrMore old list new = (new ≡ old) ⊎ (new ≡ old ++ list ∷ [])

-- the list that lies there among the items of all
abbrev pub cut : (items : List ℕ) → Span → List ℕ
cut items span = take (span.end - span.start) (drop span.start items)

-- the span of a list that is added behind the items
abbrev pub span_of : (items list : List ℕ) → (hash : ℕ) → Span
span_of items list hash = record { start = length items; end = length items + length list; hash = hash }

-- each span lies within so many items
abbrev pub AreWithin : ℕ → List Span → Type 0
AreWithin count [] = Unit {0}
AreWithin count (span ∷ spans) = (span.start ≤ span.end) × (span.end ≤ count) × AreWithin count spans

-- each list is one of a set
abbrev pub AreRisen : List (List ℕ) → Type 0
AreRisen [] = Unit {0}
AreRisen (list ∷ lists) = Rising list × AreRisen lists
