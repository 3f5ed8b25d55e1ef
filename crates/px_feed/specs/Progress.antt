-- How far a feed has come.
use Rattle.std.specs.Prelude.{ℕ, List, Option}
use Rattle.px_feed.specs.declared.ending.Ending.{Ending}

-- The lines so far of the document that has begun, which are none outside documents. How many lines have ended, and their
-- bytes. Of the line that has begun what is kept, which is all of it unless it is too long, and how many bytes it has. What
-- was read and is not taken yet, and how the feed has ended.
pub record Progress : Type 0 where
  pub document : List ℕ
  pub lines : ℕ
  pub size : ℕ
  pub kept : List ℕ
  pub begun : ℕ
  pub unread : List ℕ
  pub ending : Option Ending
