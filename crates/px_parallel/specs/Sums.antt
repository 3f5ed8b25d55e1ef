-- The sums over the output of a feed: how many ids its lines list, and what they are together.
use Rattle.std.specs.Prelude.{◌≡◌, ℕ, List, [], ◌∷◌, ◌++◌, length, sum, flat_map, codes, decimal, Option, ◌⊎◌}
use Rattle.px_io.specs.Flows.{AddsTo}
use Rattle.px_feed.specs.declared.line.OutLine.{OutLine}
use Rattle.px_feed.specs.declared.line.OutLine.TheVariants.{Matched}
use Rattle.px_feed.specs.declared.status.Status.{Status}
use Rattle.px_feed.specs.declared.status.Status.TheVariants.{Done}
use Rattle.px_feed.specs.Generator.{feed}
use Rattle.px_feed.specs.Items.{Item, Stop, HasItems}
use Rattle.px_feed.specs.Outputs.{AreLines}
use Rattle.px_parallel.specs.declared.sums.LoadLine.{LoadLine}
use Rattle.px_parallel.specs.declared.sums.Sums.{Sums}

-- the ids that a line lists: that of a document those that match
abbrev pub ids_listed : OutLine → List ℕ
ids_listed (Matched version ids) = ids
ids_listed _ = []

abbrev pub all_listed : List OutLine → List ℕ
all_listed = flat_map ids_listed

-- of the ids that these lines list
pub record AreSums (lines : List OutLine) (sums : Sums) : Type 0 where
  pub matches : sums.matches ≡ length (all_listed lines)
  pub sum_is : sums.sum ≡ sum (all_listed lines)

-- the line of a feed with so many filters and documents, and of these sums, without its line feed
abbrev pub load_words : (filters documents matches total : ℕ) → List ℕ
load_words filters documents matches total =
    codes "filters " ++ decimal filters ++ codes " documents " ++ decimal documents ++ codes " matches " ++ decimal matches ++ codes " sum " ++ decimal total

abbrev pub load_text : (filters documents matches total : ℕ) → List ℕ
load_text filters documents matches total = load_words filters documents matches total ++ 10 ∷ []

-- the text of such a line
abbrev pub text_of_load : LoadLine → List ℕ
text_of_load line = load_text line.load.filters line.load.documents line.sums.matches line.sums.sum

-- The sums are those of the lines for the items of a feed.
pub record AreSumsOf (bytes : List ℕ) (sums : Sums) : Type 0 where
  pub items : List Item
  pub stop : Stop
  pub lines : List OutLine
  pub has_items : HasItems bytes items stop
  pub are_lines : AreLines items lines
  pub are_sums : AreSums lines sums

-- The text is the line of the sums over the output of the generated feed.
pub record OutLoad (seed filters documents : ℕ) (text : List ℕ) : Type 0 where
  pub sums : Sums
  pub are_sums : AreSumsOf (feed seed filters documents) sums
  pub written : text ≡ load_text filters documents sums.matches sums.sum

-- A run of `load` that was not cut short wrote that line, and ended well.
pub record Loaded (seed filters documents : ℕ) (held held_after : Option (List ℕ)) (status : Status) : Type 0 where
  pub text : List ℕ
  pub is_for : OutLoad seed filters documents text
  pub written : AddsTo held text held_after
  pub ended : status ≡ Done

-- A run that was cut short wrote a front of it: nothing yet, or a front of its text.
pub record LoadFront (seed filters documents : ℕ) (held held_after : Option (List ℕ)) : Type 0 where
  pub bytes_written : List ℕ
  pub written : AddsTo held bytes_written held_after
  pub is_front : (bytes_written ≡ []) ⊎ ((text rest : List ℕ) × OutLoad seed filters documents text × (text ≡ bytes_written ++ rest))
