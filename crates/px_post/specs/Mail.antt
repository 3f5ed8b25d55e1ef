-- Letters on their way from feeders to a mailbox.
use Rattle.std.specs.Prelude.{◌≡◌, ℕ, ◌+◌, ◌<◌, true, List, [], ◌∷◌, ◌++◌, length, Some, None}
use Rattle.atomic_table.specs.Seated.{TableId}
use Rattle.px_line.specs.Lines.{LineName, Seated, HasNumber, of, ended_of}
use Rattle.px_post.specs.declared.letter.Letter.{Letter}

abbrev pub feeder_of : Letter → ℕ
feeder_of x = x.feeder

-- the letter is the next behind these of its feeder
abbrev pub IsNext : List Letter → Letter → Type 0
IsNext given x = x.seq ≡ length given + 1

-- the letters of one feeder
abbrev pub of_feeder : ℕ → List Letter → List Letter
of_feeder f xs = of feeder_of f xs

-- numbered on from n
abbrev pub AreNumbered : ℕ → List Letter → Type 0
AreNumbered n [] = Unit {0}
AreNumbered n (x ∷ xs) = (x.seq ≡ n + 1) × AreNumbered (n + 1) xs

abbrev pub IsFront : List Letter → List Letter → Type 0
IsFront front all = (rest : List Letter) × (all ≡ front ++ rest)

-- what contracts see of a mailbox: which one it is, how many letters may wait, how many exits were made, the letters that it gave, and of each feeder whose slip was taken in all its letters
pub record Mail : Type 0 where
  pub number : ℕ
  pub table : TableId
  pub capacity : ℕ
  pub made : ℕ
  pub got : List Letter
  pub ended : List (ℕ × List Letter)

-- The letters of each feeder are numbered from 1, and are a front of all its letters where its slip was taken in.
pub record InOrder (got : List Letter) (ended : List (ℕ × List Letter)) : Type 0 where
  pub numbered : (f : ℕ) → AreNumbered 0 (of_feeder f got)
  pub front : (f : ℕ) (all : List Letter) → ended_of f ended ≡ Some all → IsFront (of_feeder f got) all

-- the seat of a mailbox at its line
pub record IsMailbox (line : LineName) (seat : Seated Letter) : Type 0 where
  pub table : line.table ≡ seat.table
  pub parts : 0 < seat.knows.parts
  pub alone : seat.knows.alone ≡ true
  pub makes : HasNumber seat.knows.makes
  pub gives : seat.knows.gives ≡ None
  pub in_order : InOrder seat.knows.taken seat.knows.ended

-- the seat of an exit of a feeder at the line of the mailbox
pub record IsExit (feeder : ℕ) (line : LineName) (seat : Seated Letter) : Type 0 where
  pub table : line.table ≡ seat.table
  pub parts : seat.knows.parts ≡ 0
  pub makes : seat.knows.makes ≡ None
  pub gives : seat.knows.gives ≡ Some feeder

-- of each feeder whose slip was taken in the mailbox gave all letters
abbrev pub AreAll : List Letter → List (ℕ × List Letter) → Type 0
AreAll got ended = (f : ℕ) (all : List Letter) → ended_of f ended ≡ Some all → of_feeder f got ≡ all

-- what contracts see of an exit of a feeder, and of its slip: the mailbox, and the letters that were put there
pub record Way : Type 0 where
  pub feeder : ℕ
  pub mailbox : ℕ
  pub table : TableId
  pub capacity : ℕ
  pub put : List Letter

-- At one moment so many letters waited, and those of the feeder among them were the last that it put.
abbrev pub WasFull : (capacity feeder : ℕ) → List Letter → Type 0
WasFull capacity f put = (taken : List Letter) × (waiting : List Letter) × (length waiting ≡ capacity) × (put ≡ of_feeder f taken ++ of_feeder f waiting)
