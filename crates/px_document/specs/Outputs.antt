-- What `explain` and `verify` find.
use Rattle.std.specs.Prelude.{◌≡◌, ◌⊎◌, ℕ, List, Option, Some, Result, MatchResult, IsTrue, false}
use Rattle.px_text.specs.Nodes.{Root}
use Rattle.px_io.specs.Flows.{IsSpent}
use Rattle.px_reader.specs.Verdicts.{Verdict, IsFaulty, IsTree, HasVerdict}
use Rattle.px_xpath.specs.Filters.{Way}
use Rattle.px_xpath.specs.Meaning.{holds}
use Rattle.px_xpath.specs.declared.fault.FilterFault.{FilterFault}
use Rattle.px_feed.specs.Matches.{Parses, faulty}
use Rattle.px_feed.specs.declared.line.OutLine.TheVariants as line
use Rattle.px_explain.specs.Bounds.{Exceeds}
use Rattle.px_explain.specs.Canonical.{canonical}
use Rattle.px_explain.specs.Checking.{Shows}
use Rattle.px_explain.specs.Openings.{Opening, Opens, ProofThen, NoProofAt, TooManyLines}
use Rattle.px_explain.specs.declared.checker.Checked.{Checked}
use Rattle.px_explain.specs.declared.checker.Checked.TheVariants.{Yes, No, Wrong}
use Rattle.px_explain.specs.declared.node.ProofNode.{ProofNode}
use Rattle.px_document.specs.Findings.{needs_all, is_of_filter}
use Rattle.px_document.specs.declared.finding.Finding.{Finding}
use Rattle.px_document.specs.declared.finding.Finding.TheVariants.{Line, NoProofLine, ProofTooMany, WrongNode, Explained}

-- what explains a tree: whether it matches, and the canonical proof, if it is not too much
abbrev pub ExplainsTree : Way → Root → Finding → Type 0
ExplainsTree filter root finding =
    (Exceeds (canonical filter root) × (finding ≡ ProofTooMany))
    ⊎ ((Exceeds (canonical filter root) → ⊥) × (finding ≡ Explained (holds filter root) (canonical filter root)))

abbrev pub ExplainsVerdict : Way → Verdict → Finding → Type 0
ExplainsVerdict filter (IsFaulty at kind) finding = finding ≡ Line (faulty (record { line = at; kind = kind }))
ExplainsVerdict filter (IsTree root) finding = ExplainsTree filter root finding

-- what explains a document under a filter
abbrev pub ExplainsDocument : Way → (bytes : List ℕ) → Finding → Type 0
ExplainsDocument filter bytes finding = (verdict : Verdict) × HasVerdict bytes verdict × ExplainsVerdict filter verdict finding

-- what a checked proof says
abbrev pub saying : Checked → Finding
saying Yes = Line line.Yes
saying No = Line line.No
saying (Wrong at) = WrongNode at

abbrev pub VerifiesVerdict : Way → List ProofNode → Verdict → Finding → Type 0
VerifiesVerdict filter nodes (IsFaulty at kind) finding = finding ≡ Line (faulty (record { line = at; kind = kind }))
VerifiesVerdict filter nodes (IsTree root) finding = (checked : Checked) × Shows filter root nodes checked × (finding ≡ saying checked)

-- what a proof says of the document behind it: the document's fault comes before a wrong node
abbrev pub VerifiesOpening : Way → Opening → Finding → Type 0
VerifiesOpening filter (NoProofAt at) finding = finding ≡ NoProofLine at
VerifiesOpening filter TooManyLines finding = finding ≡ ProofTooMany
VerifiesOpening filter (ProofThen nodes document) finding =
    (verdict : Verdict) × HasVerdict document verdict × VerifiesVerdict filter nodes verdict finding

-- what an input says of a filter, that is a proof and a document
abbrev pub VerifiesInput : Way → (bytes : List ℕ) → Finding → Type 0
VerifiesInput filter bytes finding = (opening : Opening) × Opens bytes opening × VerifiesOpening filter opening finding

-- a filter's text is judged first
abbrev pub UnderFilter : (Way → Finding → Type 0) → (filter : List ℕ) → Finding → Type 0
UnderFilter finds filter finding =
    (parsed : Result Way FilterFault) × Parses filter parsed × MatchResult parsed (λ way. finds way finding) (λ fault. finding ≡ Line (line.NoFilter fault))

-- what `explain` finds of a filter's text and a document's bytes
abbrev pub Explains : (filter bytes : List ℕ) → Finding → Type 0
Explains filter bytes = UnderFilter (λ way. ExplainsDocument way bytes) filter

-- what `verify` finds of a filter's text and the bytes of a proof and a document
abbrev pub Verifies : (filter bytes : List ℕ) → Finding → Type 0
Verifies filter bytes = UnderFilter (λ way. VerifiesInput way bytes) filter

-- This is found of the bytes that are left in a source. A fault of the filter is found before anything is read.
pub record IsFound (finds : (bytes : List ℕ) → Finding → Type 0) (left after : Option (List ℕ)) (finding : Finding) : Type 0 where
  pub found : (bytes : List ℕ) → left ≡ Some bytes → finds bytes finding
  pub read_whole : IsTrue (needs_all finding) → IsSpent after
  pub unread : IsTrue (is_of_filter finding) → after ≡ left

-- The same of what is found under a filter that was read.
pub record IsFoundUnder (finds : (bytes : List ℕ) → Finding → Type 0) (left after : Option (List ℕ)) (finding : Finding) : Type 0 where
  pub found : (bytes : List ℕ) → left ≡ Some bytes → finds bytes finding
  pub read_whole : IsTrue (needs_all finding) → IsSpent after
  pub of_input : is_of_filter finding ≡ false
