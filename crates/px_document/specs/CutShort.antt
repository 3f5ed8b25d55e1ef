-- What was found by a run whose source met a fault.
use Rattle.std.specs.Prelude.{ℕ, List, Option, Ok}
use Rattle.px_xpath.specs.Filters.{Way}
use Rattle.px_feed.specs.Matches.{Parses}
use Rattle.px_document.specs.Documents.{GivesFine}
use Rattle.px_document.specs.Proofs.{GivesFineOpening}

-- The filter's text has no fault, nor has what was read of the document.
pub record CutAtDocument (filter : List ℕ) (left now : Option (List ℕ)) : Type 0 where
  pub way : Way
  pub parses : Parses filter (Ok way)
  pub read : GivesFine left now

-- The same of a proof and a document.
pub record CutAtProof (filter : List ℕ) (left now : Option (List ℕ)) : Type 0 where
  pub way : Way
  pub parses : Parses filter (Ok way)
  pub read : GivesFineOpening left now
