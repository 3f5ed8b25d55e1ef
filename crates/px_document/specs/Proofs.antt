-- A proof in front of a document, that is read from a source.
use Rattle.std.specs.Prelude.{◌≡◌, ◌≤◌, ◌++◌, ℕ, true, List, length, Option, Some}
use Rattle.px_io.specs.Flows.{TakesFrom}
use Rattle.px_reader.specs.Verdicts.{HasVerdict, IsFaulty}
use Rattle.px_reader.specs.declared.fault.DocFault.{DocFault}
use Rattle.px_reader.specs.declared.fault.DocKind.{DocKind}
use Rattle.px_reader.specs.declared.fault.DocKind.TheVariants.{Truncated}
use Rattle.px_explain.specs.declared.node.ProofNode.{ProofNode}
use Rattle.px_explain.specs.declared.proof_reader.ProofReader.{ProofReader}
use Rattle.px_explain.specs.Incoming.{HasProof, HasTaken}
use Rattle.px_explain.specs.Incoming as incoming
use Rattle.px_explain.specs.Openings.{AreLines, Opens, ProofThen, has_no_feed}
use Rattle.px_document.specs.Documents.{HasCome, IsFaultOf, IsFineSoFar}
use Rattle.px_document.specs.declared.document.Document.{Document}
use Rattle.px_document.specs.declared.opening.Halt.{Halt}
use Rattle.px_document.specs.declared.opening.Halt.TheVariants as halt
use Rattle.px_document.specs.declared.opening.Opened.{Opened}
use Rattle.px_document.specs.declared.stop.Stop.TheVariants.{Doc, Source, Memory}

-- Of what was left at first the reader has taken what was given since, at least so many bytes.
pub record Takes (least : ℕ) (left now : Option (List ℕ)) (reader : ProofReader) : Type 0 where
  pub bytes : List ℕ
  pub taken : TakesFrom left bytes now
  pub has_taken : HasTaken reader bytes
  pub many : least ≤ length bytes

-- The source has given the whole proof, and the document has taken what came behind it.
pub record EndsProof (left now : Option (List ℕ)) (reader : ProofReader) (document : Document) : Type 0 where
  pub bytes : List ℕ
  pub begun : List ℕ
  pub taken : TakesFrom left bytes now
  pub has_proof : HasProof reader begun bytes
  pub come : HasCome document begun

-- the same of a proof that is finished
pub record OpensDocument (left now : Option (List ℕ)) (opened : Opened) : Type 0 where
  pub bytes : List ℕ
  pub begun : List ℕ
  pub taken : TakesFrom left bytes now
  pub opens : Opens bytes (ProofThen opened.proof begun)
  pub come : HasCome opened.document begun

-- The bytes that were left are a proof and a document with this fault, which shows before its end.
pub record HasBadDocument (left : Option (List ℕ)) (line : ℕ) (kind : DocKind) : Type 0 where
  pub verdict : (bytes : List ℕ) → left ≡ Some bytes → (nodes : List ProofNode) × (document : List ℕ) × Opens bytes (ProofThen nodes document) × HasVerdict document (IsFaulty line kind)
  pub early : kind ≡ Truncated → ⊥

-- what has stopped the reading
abbrev pub Halts : Halt → (left : Option (List ℕ)) → Type 0
Halts (halt.Proof fault) left = (bytes : List ℕ) → left ≡ Some bytes → incoming.IsFaultOf fault bytes
Halts (halt.Document (Doc fault)) left = HasBadDocument left fault.line fault.kind
Halts (halt.Document Source) left = Unit {0}
Halts (halt.Document Memory) left = Unit {0}

-- what has stopped a document at its first bytes, however they go on
abbrev pub HaltsAt : Halt → (begun : List ℕ) → Type 0
HaltsAt (halt.Proof fault) begun = ⊥
HaltsAt (halt.Document (Doc fault)) begun = IsFaultOf fault begun
HaltsAt (halt.Document Source) begun = ⊥
HaltsAt (halt.Document Memory) begun = Unit {0}

-- the bytes are a proof and the first bytes of a document, which show its fault
pub record BeginsBadly (fault : DocFault) (bytes : List ℕ) : Type 0 where
  pub nodes : List ProofNode
  pub begun : List ℕ
  pub opens : Opens bytes (ProofThen nodes begun)
  pub at_fault : IsFaultOf fault begun

-- what has stopped a proof and a document in these bytes, however they go on
abbrev pub HaltsIn : Halt → (bytes : List ℕ) → Type 0
HaltsIn (halt.Proof fault) bytes = (more : List ℕ) → incoming.IsFaultOf fault (bytes ++ more)
HaltsIn (halt.Document (Doc fault)) bytes = BeginsBadly fault bytes
HaltsIn (halt.Document Source) bytes = ⊥
HaltsIn (halt.Document Memory) bytes = Unit {0}

-- No line that is whole in the bytes is at fault: they are lines of a proof and what has begun of the next line, or a whole proof and a document that is fine so far.
pub data IsFineOpening : (bytes : List ℕ) → Type 0 where
  in_proof : {bytes : List ℕ} (nodes : List ProofNode) (begun : List ℕ) →
      AreLines nodes begun bytes → has_no_feed begun ≡ true → length begun ≤ 16 → IsFineOpening bytes
  in_document : {bytes : List ℕ} (nodes : List ProofNode) (begun : List ℕ) →
      Opens bytes (ProofThen nodes begun) → IsFineSoFar begun → IsFineOpening bytes

-- What the source has given shows no fault of a proof and a document that go on.
pub record GivesFineOpening (left now : Option (List ℕ)) : Type 0 where
  pub bytes : List ℕ
  pub taken : TakesFrom left bytes now
  pub fine : IsFineOpening bytes
