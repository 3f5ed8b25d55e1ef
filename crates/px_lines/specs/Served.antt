-- What a run that answers a feed says when it ends.
use Rattle.std.specs.Prelude.{◌≡◌, ◌++◌, ◌⊎◌, ℕ, Bool, true, false, List, [], Option, Some}
use Rattle.px_io.specs.Flows.{TakesFrom, AddsTo, IsSpent}
use Rattle.px_feed.specs.declared.line.OutLine.{OutLine}
use Rattle.px_feed.specs.declared.status.Status.{Status}
use Rattle.px_feed.specs.declared.status.Status.TheVariants.{Done, Refused, WriteFault, Memory}
use Rattle.px_feed.specs.Items.{Item, AreWhole}
use Rattle.px_feed.specs.Outputs.{AreLines, Out, text_of}

-- A run that was not cut short wrote the output for the feed that was left in the source. Where all went well the feed was read to its end.
pub record Served (left after held held_after : Option (List ℕ)) (status : Status) : Type 0 where
  pub text : List ℕ
  pub is_for : (bytes : List ℕ) → left ≡ Some bytes → Out bytes text status
  pub written : AddsTo held text held_after
  pub read_whole : status ≡ Done → IsSpent after

-- A run that was cut short wrote the front of the output: nothing yet, or a front of its text.
pub record ServedFront (left held held_after : Option (List ℕ)) : Type 0 where
  pub bytes_written : List ℕ
  pub written : AddsTo held bytes_written held_after
  pub is_front : (bytes : List ℕ) → left ≡ Some bytes →
      (bytes_written ≡ []) ⊎ ((text rest : List ℕ) × (status : Status) × Out bytes text status × (text ≡ bytes_written ++ rest))

-- A run whose source met a fault wrote the lines of the items that are whole in the bytes read.
pub record ServedWhole (left after held held_after : Option (List ℕ)) : Type 0 where
  pub bytes : List ℕ
  pub read : TakesFrom left bytes after
  pub items : List Item
  pub are_whole : AreWhole bytes items
  pub lines : List OutLine
  pub are_lines : AreLines items lines
  pub written : AddsTo held (text_of lines) held_after

-- the run was not cut short
abbrev pub is_finished : Status → Bool
is_finished Done = true
is_finished Refused = true
is_finished _ = false

-- the run was cut short by its sink or for want of memory
abbrev pub is_cut_short : Status → Bool
is_cut_short WriteFault = true
is_cut_short Memory = true
is_cut_short _ = false
