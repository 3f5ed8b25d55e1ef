-- What is known of the bytes of a feed that come in pieces.
use Rattle.std.specs.Prelude.{◌≡◌, ℕ, ◌+◌, ◌≤◌, true, List, [], ◌∷◌, ◌++◌, length, take, Result, Ok, Err, Option, Some, None}
use Rattle.px_reader.specs.Lines.{lines_of, is_whole, has_no_feed}
use Rattle.px_feed.specs.declared.cutter.Cutter.{Cutter}
use Rattle.px_feed.specs.declared.fault.Failure.{Failure}
use Rattle.px_feed.specs.declared.fault.Failure.TheVariants.{Fault, Memory}
use Rattle.px_feed.specs.declared.item.Item.{Item as Given}
use Rattle.px_feed.specs.declared.joiner.Joiner.{Joiner}
use Rattle.px_feed.specs.declared.joiner.Brought.{Brought as Found}
use Rattle.px_feed.specs.declared.joiner.Brought.TheVariants as found
use Rattle.px_feed.specs.Cutting.{Cut, EndsBy}
use Rattle.px_feed.specs.Effects.{IsItem}
use Rattle.px_feed.specs.Items.{Item, AtFault, HasItems, most_bytes}

-- The bytes have given these items: their lines are cut, and of the line that has begun, of so many bytes, the first ones are kept.
pub record Joined (document : List ℕ) (number size : ℕ) (kept : List ℕ) (count : ℕ) (bytes : List ℕ) (given : List Item) : Type 0 where
  pub ended : List ℕ
  pub begun : List ℕ
  pub bytes_are : bytes ≡ ended ++ begun
  pub whole : is_whole ended ≡ true
  pub no_feed : has_no_feed begun ≡ true
  pub cut : Cut document number size (lines_of ended) given
  pub kept_are : kept ≡ take 1_048_578 begun
  pub count_is : count ≡ length begun
  pub fits : length bytes ≤ most_bytes

-- The same where a cutter has taken the lines.
abbrev pub TakenBy : Cutter → (kept : List ℕ) → (count : ℕ) → (bytes : List ℕ) → List Item → Type 0
TakenBy cutter kept count bytes given = Joined cutter.document cutter.extent.lines cutter.extent.bytes kept count bytes given

-- The joiner has taken the bytes, which have given these items.
abbrev pub HasJoined : Joiner → (bytes : List ℕ) → List Item → Type 0
HasJoined joiner bytes given = TakenBy joiner.cutter joiner.kept.items joiner.begun bytes given

-- how many bytes the joiner has taken
abbrev pub total : Joiner → ℕ
total joiner = joiner.cutter.extent.bytes + joiner.begun

-- Behind these items the bytes have this fault, whatever comes behind them.
abbrev pub FailsOn : (bytes : List ℕ) → List Item → Failure → Type 0
FailsOn bytes given (Fault fault) = (rest : List ℕ) → HasItems (bytes ++ rest) given (AtFault fault.line fault.kind)
FailsOn bytes given Memory = Unit {0}

-- The bytes gave these items and the one that is answered, if there is one; or they have the fault.
abbrev pub GivesBy : Result (Option Given) Failure → (Known : List Item → Type 0) → (bytes : List ℕ) → List Item → Type 0
GivesBy (Ok None) Known bytes given = Known given
GivesBy (Ok (Some item)) Known bytes given = (brought : Item) × IsItem item brought × Known (given ++ brought ∷ [])
GivesBy (Err failure) Known bytes given = FailsOn bytes given failure

abbrev pub Joins : Result (Option Given) Failure → Joiner → (bytes : List ℕ) → List Item → Type 0
Joins result new bytes given = GivesBy result (HasJoined new bytes) bytes given

-- what the end of a line does
abbrev pub JoinsLine : Joiner → List ℕ → Result (Option Given) Failure → Joiner → Type 0
JoinsLine old part result new = (bytes : List ℕ) (given : List Item) → HasJoined old bytes given → Joins result new (bytes ++ part) given

-- what the beginning of a line does, or more of it
abbrev pub PartBy : Result (Unit {0}) Failure → Joiner → (bytes : List ℕ) → List Item → Type 0
PartBy (Ok _) new bytes given = HasJoined new bytes given
PartBy (Err failure) new bytes given = FailsOn bytes given failure

abbrev pub JoinsPart : Joiner → List ℕ → Result (Unit {0}) Failure → Joiner → Type 0
JoinsPart old part result new = (bytes : List ℕ) (given : List Item) → HasJoined old bytes given → PartBy result new (bytes ++ part) given

-- not more of the piece was used than there is
abbrev pub UsesAtMost : Found → ℕ → Type 0
UsesAtMost (found.Item used item) size = used ≤ size
UsesAtMost found.Nothing size = Unit {0}
UsesAtMost (found.Failed failure) size = Unit {0}

-- what a piece brings behind bytes that gave these items
abbrev pub BringsBy : Found → Joiner → (bytes piece : List ℕ) → List Item → Type 0
BringsBy (found.Item used item) new bytes piece given = (brought : Item) × IsItem item brought × HasJoined new (bytes ++ take used piece) (given ++ brought ∷ [])
BringsBy found.Nothing new bytes piece given = HasJoined new (bytes ++ piece) given
BringsBy (found.Failed failure) new bytes piece given = FailsOn (bytes ++ piece) given failure

abbrev pub JoinsPiece : Joiner → List ℕ → Found → Joiner → Type 0
JoinsPiece old piece result new = (bytes : List ℕ) (given : List Item) → HasJoined old bytes given → BringsBy result new bytes piece given

-- The bytes are all.
abbrev pub EndsJoined : Joiner → Result (Option Given) Failure → Type 0
EndsJoined old result = (bytes : List ℕ) (given : List Item) → HasJoined old bytes given → EndsBy result (lines_of bytes) given
