-- What the functions below the top call say of a run: each its part of the record of `Answers.antt`.
use Rattle.std.specs.Prelude.{◌≡◌, ℕ, false, List, Option, Some, IsTrue}
use Rattle.px_io.specs.Flows.{AddsTo, IsSpent}
use Rattle.px_feed.specs.declared.line.OutLine.{OutLine}
use Rattle.px_feed.specs.declared.status.Status.{Status}
use Rattle.px_feed.specs.declared.status.Status.TheVariants.{Done}
use Rattle.px_feed.specs.Generator.{feed}
use Rattle.px_feed.specs.Lines.{line_text}
use Rattle.px_feed.specs.Matches.{AnswersDocument, AnswersMatch, OutShow, status_behind}
use Rattle.px_xpath.specs.Filters.{Way}
use Rattle.px_document.specs.declared.finding.Finding.{Finding}
use Rattle.px_document.specs.CutShort.{CutAtDocument, CutAtProof}
use Rattle.px_document.specs.Findings as findings
use Rattle.px_document.specs.Findings.{line_is_of_filter, line_needs_all}
use Rattle.px_document.specs.Outputs as outputs
use Rattle.px_document.specs.Outputs.{IsFound}
use Rattle.px_lines.specs.Served.{Served, ServedWhole}
use Rattle.px_parallel.specs.Sums.{Loaded}
use Rattle.xpush.specs.Answers.{IsFront}
use Rattle.xpush.specs.Forms.{Form, Explains, Loads, Makes, Matches, Serves, Shows, Verifies}

-- The line answers a filter's text and the document that is left in the source. A fault of the filter is answered before anything is read.
pub record IsLineFor (filter : List ℕ) (left after : Option (List ℕ)) (line : OutLine) : Type 0 where
  pub answers : (bytes : List ℕ) → left ≡ Some bytes → AnswersMatch filter bytes line
  pub read_whole : IsTrue (line_needs_all line) → IsSpent after
  pub unread : IsTrue (line_is_of_filter line) → after ≡ left

-- The line answers the document that is left in the source under a filter.
pub record IsLineUnder (filter : Way) (left after : Option (List ℕ)) (line : OutLine) : Type 0 where
  pub answers : (bytes : List ℕ) → left ≡ Some bytes → AnswersDocument filter bytes line
  pub read_whole : IsTrue (line_needs_all line) → IsSpent after
  pub of_document : line_is_of_filter line ≡ false

-- A run of `match` that was not cut short wrote one line, which answers the filter and the document, and ended as the line says.
pub record Matched (filter : List ℕ) (left after held held_after : Option (List ℕ)) (status : Status) : Type 0 where
  pub line : OutLine
  pub is_for : IsLineFor filter left after line
  pub written : AddsTo held (line_text line) held_after
  pub ended : status ≡ status_behind line

-- A run of `show` that was not cut short read nothing, and wrote what is shown of the filter.
pub record Shown (filter : List ℕ) (left after held held_after : Option (List ℕ)) (status : Status) : Type 0 where
  pub text : List ℕ
  pub is_for : OutShow filter text status
  pub written : AddsTo held text held_after
  pub unread : after ≡ left

-- A run of `explain` or of `verify` that was not cut short wrote what is found, and ended as that says.
pub record Proved (finds : (bytes : List ℕ) → Finding → Type 0) (left after held held_after : Option (List ℕ)) (status : Status) : Type 0 where
  pub finding : Finding
  pub is_found : IsFound finds left after finding
  pub written : AddsTo held (findings.text finding) held_after
  pub ended : status ≡ findings.status finding

-- A run of `make` that was not cut short read nothing, and wrote the feed.
pub record Made (seed filters documents : ℕ) (left after held held_after : Option (List ℕ)) (status : Status) : Type 0 where
  pub written : AddsTo held (feed seed filters documents) held_after
  pub ended : status ≡ Done
  pub unread : after ≡ left

-- A run of `load` that was not cut short read nothing, and wrote the line of the sums.
pub record LoadedUnread (seed filters documents : ℕ) (left after held held_after : Option (List ℕ)) (status : Status) : Type 0 where
  pub loaded : Loaded seed filters documents held held_after status
  pub unread : after ≡ left

-- what a run that was not cut short answers
abbrev pub Answers : Form → (left after held held_after : Option (List ℕ)) → Status → Type 0
Answers (Matches filter) = Matched filter
Answers (Shows filter) = Shown filter
Answers (Explains filter) = Proved (outputs.Explains filter)
Answers (Verifies filter) = Proved (outputs.Verifies filter)
Answers (Makes seed filters documents) = Made seed filters documents
Answers (Serves hub) = Served
Answers (Loads seed filters documents hub) = LoadedUnread seed filters documents

-- a run that was cut short wrote the front of its output
pub record WritesFront (form : Form) (left held held_after : Option (List ℕ)) : Type 0 where
  pub bytes_written : List ℕ
  pub written : AddsTo held bytes_written held_after
  pub is_front : IsFront form left bytes_written

-- What a run whose source met a fault wrote: nothing, but of a feed the lines of its whole items. Nothing that was read whole is at fault. Without a source there is no such run.
abbrev pub WritesWhole : Form → (left after held held_after : Option (List ℕ)) → Type 0
WritesWhole (Matches filter) left after held held_after = CutAtDocument filter left after × (held_after ≡ held)
WritesWhole (Shows filter) left after held held_after = ⊥
WritesWhole (Explains filter) left after held held_after = CutAtDocument filter left after × (held_after ≡ held)
WritesWhole (Verifies filter) left after held held_after = CutAtProof filter left after × (held_after ≡ held)
WritesWhole (Makes seed filters documents) left after held held_after = ⊥
WritesWhole (Serves hub) left after held held_after = ServedWhole left after held held_after
WritesWhole (Loads seed filters documents hub) left after held held_after = ⊥
