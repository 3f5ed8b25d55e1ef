-- What is read of a document.
use Rattle.std.specs.Prelude.{◌≡◌, ◌≤◌, ℕ, List, [], ◌∷◌, length, Option, Some}
use Rattle.px_text.specs.Nodes.{Root}
use Rattle.px_io.specs.Flows.{TakesFrom, IsSpent}
use Rattle.px_reader.specs.declared.event.Event.{Event}
use Rattle.px_reader.specs.declared.fault.DocFault.{DocFault}
use Rattle.px_reader.specs.declared.fault.DocKind.TheVariants.{Truncated}
use Rattle.px_reader.specs.declared.reader.Reader.{Reader}
use Rattle.px_reader.specs.Reading.{HasRead}
use Rattle.px_reader.specs.Verdicts.{HasVerdict, IsTree, IsFaulty}
use Rattle.px_xpath.specs.Filters.{Way}
use Rattle.px_afa.specs.Building.{Automata}
use Rattle.xpush.specs.Verdicts.{ids_accepted, ids_matching}

-- The bytes that the source has given were read, at least so many, and brought these events.
pub record Reads (least : ℕ) (left now : Option (List ℕ)) (reader : Reader) (given : List Event) : Type 0 where
  pub bytes : List ℕ
  pub taken : TakesFrom left bytes now
  pub read : HasRead reader bytes given
  pub many : least ≤ length bytes

-- The source is at its end, and nothing was read.
pub record IsAtEnd (left now : Option (List ℕ)) (reader reader_now : Reader) : Type 0 where
  pub spent : IsSpent now
  pub still_left : now ≡ left
  pub same_reader : reader_now ≡ reader

-- The source has given a document to its end, and the machine of the program accepts these ids of it.
pub record GivesIds (program : Automata) (left now : Option (List ℕ)) (ids : List ℕ) : Type 0 where
  pub root : Root
  pub ids_are : ids ≡ ids_accepted program root
  pub spent : IsSpent now
  pub verdict : (bytes : List ℕ) → left ≡ Some bytes → HasVerdict bytes (IsTree root)

-- The source has given a document to its end, and these ids are 1 where it matches the filter, and none where not.
pub record GivesMatch (filter : Way) (left now : Option (List ℕ)) (ids : List ℕ) : Type 0 where
  pub root : Root
  pub ids_are : ids ≡ ids_matching (record { id = 1; filter = filter } ∷ []) root
  pub spent : IsSpent now
  pub verdict : (bytes : List ℕ) → left ≡ Some bytes → HasVerdict bytes (IsTree root)

-- What the source has given shows the fault of its document; it was read to its end where it is truncated.
pub record GivesFault (left now : Option (List ℕ)) (fault : DocFault) : Type 0 where
  pub verdict : (bytes : List ℕ) → left ≡ Some bytes → HasVerdict bytes (IsFaulty fault.line fault.kind)
  pub spent : fault.kind ≡ Truncated → IsSpent now
