-- What is found of a filter, a proof and a document: its text and its status.
use Rattle.std.specs.Prelude.{ℕ, List, ◌++◌, codes, decimal, Bool, true, false, if◌then◌else◌}
use Rattle.px_reader.specs.declared.fault.DocKind.TheVariants.{Truncated}
use Rattle.px_feed.specs.declared.line.FeedKind.{FeedKind}
use Rattle.px_feed.specs.declared.line.FeedKind.TheVariants.{Doc}
use Rattle.px_feed.specs.declared.line.OutLine.{OutLine}
use Rattle.px_feed.specs.declared.line.OutLine.TheVariants.{NoFilter, Faulty, Yes, No}
use Rattle.px_feed.specs.declared.status.Status.{Status}
use Rattle.px_feed.specs.declared.status.Status.TheVariants.{Refused}
use Rattle.px_feed.specs.Lines.{line_text}
use Rattle.px_feed.specs.Matches.{status_behind}
use Rattle.px_explain.specs.Texts.{text_of}
use Rattle.px_explain.specs.declared.node.ProofNode.{ProofNode}
use Rattle.px_document.specs.declared.finding.Finding.{Finding}
use Rattle.px_document.specs.declared.finding.Finding.TheVariants.{Line, NoProofLine, ProofTooMany, WrongNode, Explained}

abbrev pub answer : (matches : Bool) → OutLine
answer matches = if matches then Yes else No

abbrev pub no_line : (line : ℕ) → List ℕ
no_line line = codes "! proof line " ++ decimal line ++ codes "\n"

abbrev pub wrong_node : (at : ℕ) → List ℕ
wrong_node at = codes "! proof wrong " ++ decimal at ++ codes "\n"

abbrev pub explained : (matches : Bool) → List ProofNode → List ℕ
explained matches proof = line_text (answer matches) ++ text_of proof

-- what is written
abbrev pub text : Finding → List ℕ
text (Line line) = line_text line
text (NoProofLine line) = no_line line
text ProofTooMany = codes "! proof too-many\n"
text (WrongNode at) = wrong_node at
text (Explained matches proof) = explained matches proof

-- how the run ends: well with `yes` alone
abbrev pub status : Finding → Status
status (Line line) = status_behind line
status (Explained matches proof) = status_behind (answer matches)
status _ = Refused

abbrev pub is_truncated : FeedKind → Bool
is_truncated (Doc Truncated) = true
is_truncated _ = false

-- whether a line is known only once the whole input is read
abbrev pub line_needs_all : OutLine → Bool
line_needs_all Yes = true
line_needs_all No = true
line_needs_all (Faulty fault) = is_truncated fault.kind
line_needs_all _ = false

abbrev pub line_is_of_filter : OutLine → Bool
line_is_of_filter (NoFilter fault) = true
line_is_of_filter _ = false

-- the same of what is found
abbrev pub needs_all : Finding → Bool
needs_all (Line line) = line_needs_all line
needs_all (WrongNode at) = true
needs_all (Explained matches proof) = true
needs_all _ = false

abbrev pub is_of_filter : Finding → Bool
is_of_filter (Line line) = line_is_of_filter line
is_of_filter _ = false
