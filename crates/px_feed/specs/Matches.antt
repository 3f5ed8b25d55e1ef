-- What is written for a filter: for one document, or for itself.
use Rattle.std.specs.Prelude.{◌≡◌, ◌++◌, ℕ, [], ◌∷◌, Bool, true, false, List, Result, Ok, Err, MatchResult, if◌then◌else◌}
use Rattle.px_reader.specs.declared.fault.DocFault.{DocFault}
use Rattle.px_reader.specs.Verdicts.{Verdict, IsFaulty, IsTree, HasVerdict}
use Rattle.px_xpath.specs.Meaning.{holds}
use Rattle.px_xpath.specs.Filters.{Way}
use Rattle.px_xpath.specs.Printed.{printed}
use Rattle.px_xpath.specs.declared.fault.FilterFault.{FilterFault}
use Rattle.px_xpath.specs.Faults.{HasFault, IsText}
use Rattle.px_feed.specs.declared.line.FeedKind.TheVariants.{Doc}
use Rattle.px_feed.specs.declared.line.OutLine.{OutLine}
use Rattle.px_feed.specs.declared.line.OutLine.TheVariants.{NoFilter, Faulty, Yes, No}
use Rattle.px_feed.specs.declared.status.Status.{Status}
use Rattle.px_feed.specs.declared.status.Status.TheVariants.{Done, Refused}
use Rattle.px_feed.specs.Lines.{line_text}

-- what a text is, by the grammar: a filter or its fault
abbrev pub Parses : List ℕ → Result Way FilterFault → Type 0
Parses text (Ok filter) = IsText text filter
Parses text (Err fault) = HasFault text fault

-- the line for a document's fault
abbrev pub faulty : DocFault → OutLine
faulty fault = Faulty (record { line = fault.line; kind = Doc fault.kind })

-- the line for a document under one filter
abbrev pub match_line : Way → Verdict → OutLine
match_line filter (IsFaulty line kind) = faulty (record { line = line; kind = kind })
match_line filter (IsTree root) = if holds filter root then Yes else No

-- this is the line for a document's bytes under the filter
abbrev pub AnswersDocument : Way → List ℕ → OutLine → Type 0
AnswersDocument filter bytes line = (verdict : Verdict) × HasVerdict bytes verdict × (line ≡ match_line filter verdict)

-- this is the line for a filter's text and a document's bytes
abbrev pub AnswersMatch : List ℕ → List ℕ → OutLine → Type 0
AnswersMatch text bytes line =
    (parsed : Result Way FilterFault) × Parses text parsed
    × MatchResult parsed (λ filter. AnswersDocument filter bytes line) (λ fault. line ≡ NoFilter fault)

abbrev pub is_yes : OutLine → Bool
is_yes Yes = true
is_yes _ = false

-- the status behind the one line of a match
abbrev pub status_behind : OutLine → Status
status_behind line = if is_yes line then Done else Refused

-- the text and the status for a filter's text and a document's bytes
abbrev pub OutMatch : List ℕ → List ℕ → List ℕ → Status → Type 0
OutMatch filter bytes text status =
    (line : OutLine) × AnswersMatch filter bytes line × (text ≡ line_text line) × (status ≡ status_behind line)

-- the text and the status for a filter's text that is shown: its printed form and a line feed, or the line of its fault
abbrev pub OutShow : List ℕ → List ℕ → Status → Type 0
OutShow filter text status =
    (parsed : Result Way FilterFault) × Parses filter parsed
    × MatchResult parsed
    (λ way. (text ≡ printed way ++ 10 ∷ []) × (status ≡ Done))
    (λ fault. (text ≡ line_text (NoFilter fault)) × (status ≡ Refused))
