-- What is read of a document.
use Rattle.std.specs.Prelude.{◌≡◌, ◌≤◌, ◌++◌, ℕ, true, List, [], ◌∷◌, length, Option, Some}
use Rattle.px_text.specs.Nodes.{Root}
use Rattle.px_io.specs.Flows.{TakesFrom, IsSpent}
use Rattle.px_reader.specs.declared.fault.DocFault.{DocFault}
use Rattle.px_reader.specs.declared.fault.DocKind.TheVariants.{Truncated}
use Rattle.px_reader.specs.Lines.{has_no_feed, is_whole}
use Rattle.px_reader.specs.Reading.{HasRead}
use Rattle.px_reader.specs.Recorded.{AreFine}
use Rattle.px_reader.specs.Verdicts.{HasVerdict, IsTree, IsFaulty}
use Rattle.px_document.specs.declared.document.Document.{Document}

-- The document has taken these bytes.
pub record HasCome (document : Document) (bytes : List ℕ) : Type 0 where
  pub read : HasRead document.reader bytes document.events.items

-- Behind what was left at first, the document has taken what was given since, at least so many bytes.
pub record Comes (least : ℕ) (left now : Option (List ℕ)) (document : Document) : Type 0 where
  pub bytes : List ℕ
  pub taken : TakesFrom left bytes now
  pub come : HasCome document bytes
  pub many : least ≤ length bytes

-- The source has given a document to its end, and this is its tree.
pub record GivesTree (left now : Option (List ℕ)) (root : Root) : Type 0 where
  pub spent : IsSpent now
  pub verdict : (bytes : List ℕ) → left ≡ Some bytes → HasVerdict bytes (IsTree root)

-- What the source has given shows the fault of its document; it was read to its end where it is truncated.
pub record GivesFault (left now : Option (List ℕ)) (fault : DocFault) : Type 0 where
  pub verdict : (bytes : List ℕ) → left ≡ Some bytes → HasVerdict bytes (IsFaulty fault.line fault.kind)
  pub spent : fault.kind ≡ Truncated → IsSpent now

-- However the bytes go on, this is the document's fault.
abbrev pub IsFaultOf : DocFault → (bytes : List ℕ) → Type 0
IsFaultOf fault bytes = (rest : List ℕ) → HasVerdict (bytes ++ rest) (IsFaulty fault.line fault.kind)

-- No line that is whole in the bytes is the line of a fault, and they are not too many.
pub record IsFineSoFar (bytes : List ℕ) : Type 0 where
  pub ended : List ℕ
  pub begun : List ℕ
  pub bytes_are : bytes ≡ ended ++ begun
  pub whole : is_whole ended ≡ true
  pub no_feed : has_no_feed begun ≡ true
  pub fine : AreFine ended
  pub small : length bytes ≤ 16_777_216

-- What the source has given shows no fault of a document that goes on.
pub record GivesFine (left now : Option (List ℕ)) : Type 0 where
  pub bytes : List ℕ
  pub taken : TakesFrom left bytes now
  pub fine : IsFineSoFar bytes
