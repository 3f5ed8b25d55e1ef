-- What a reader has taken of a proof in front of a document.
use Rattle.std.specs.Prelude.{◌≡◌, ◌≤◌, ◌+◌, ◌++◌, ℕ, true, if◌then◌else◌, nat_lt, List, length}
use Rattle.px_explain.specs.declared.proof_reader.ProofReader.{ProofReader}
use Rattle.px_explain.specs.declared.reading.ProofFault.{ProofFault}
use Rattle.px_explain.specs.declared.reading.ProofFault.TheVariants.{NotAProof, TooMany, Memory}
use Rattle.px_explain.specs.Openings.{AreLines, Opens, NoProofAt, TooManyLines, end_line, has_no_feed}

-- The reader has taken these bytes: the lines of its nodes, and what has come of the next line.
pub record HasTaken (reader : ProofReader) (bytes : List ℕ) : Type 0 where
  pub lines : AreLines reader.nodes.items reader.begun.items bytes
  pub no_feed : has_no_feed reader.begun.items ≡ true
  pub short : length reader.begun.items ≤ 16

-- Of these bytes it has taken all up to the document, with which they go on.
pub record HasProof (reader : ProofReader) (document bytes : List ℕ) : Type 0 where
  pub lines : AreLines reader.nodes.items (end_line ++ document) bytes

-- This is the fault of the bytes, as a proof in front of a document. For want of memory nothing is said.
abbrev pub IsFaultOf : ProofFault → List ℕ → Type 0
IsFaultOf (NotAProof line) bytes = Opens bytes (NoProofAt line)
IsFaultOf TooMany bytes = Opens bytes TooManyLines
IsFaultOf Memory bytes = Unit {0}

-- By the part the reader goes on, whatever it has taken.
abbrev pub TakesOn : (old new : ProofReader) → (part : List ℕ) → Type 0
TakesOn old new part = (bytes : List ℕ) → HasTaken old bytes → HasTaken new (bytes ++ part)

-- By the part the proof is whole, and the document begins with what is behind it.
abbrev pub EndsProof : (old new : ProofReader) → (part document : List ℕ) → Type 0
EndsProof old new part document = (bytes : List ℕ) → HasTaken old bytes → HasProof new document (bytes ++ part)

-- With the part comes the fault, however the bytes go on.
abbrev pub FailsBy : ProofReader → (part : List ℕ) → ProofFault → Type 0
FailsBy old part fault = (bytes more : List ℕ) → HasTaken old bytes → IsFaultOf fault ((bytes ++ part) ++ more)

-- Where the bytes end here, this is their fault.
abbrev pub FailsAtEnd : ProofReader → ProofFault → Type 0
FailsAtEnd reader fault = (bytes : List ℕ) → HasTaken reader bytes → IsFaultOf fault bytes

-- the fault of a line behind so many
abbrev pub fault_behind : ℕ → ProofFault
fault_behind lines = if nat_lt lines 100_000 then NotAProof (lines + 1) else TooMany
