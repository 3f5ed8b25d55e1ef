-- What a feed has given, by the bytes that were read of it.
use Rattle.std.specs.Prelude.{◌≡◌, ℕ, ◌+◌, ◌⊎◌, List, [], ◌∷◌, ◌++◌, length, Option, Some, None}
use Rattle.px_io.specs.Flows.{TakesFrom, IsSpent}
use Rattle.px_feed.specs.declared.ending.Ending.{Ending}
use Rattle.px_feed.specs.declared.ending.Ending.TheVariants.{End, Fault, ReadFault, Memory}
use Rattle.px_feed.specs.declared.ending.Taken.{Taken}
use Rattle.px_feed.specs.declared.ending.Taken.TheVariants as taken
use Rattle.px_feed.specs.Effects.{IsItem}
use Rattle.px_feed.specs.Items.{Item, AtEnd, AtFault, HasItems, AreWhole}
use Rattle.px_feed.specs.Joining.{Joined}
use Rattle.px_feed.specs.Progress.{Progress}

-- how many bytes are taken, or read at least
abbrev pub held : Progress → ℕ
held items = items.size + items.begun + length items.unread

-- The bytes are taken in, and gave these items.
abbrev pub HasTakenIn : Progress → (bytes : List ℕ) → List Item → Type 0
HasTakenIn items bytes given = Joined items.document items.lines items.size items.kept items.begun bytes given

-- The bytes were read and gave these items, and no answer has ended the feed.
pub record GoesFurther (items : Progress) (bytes : List ℕ) (given : List Item) : Type 0 where
  pub done : List ℕ
  pub bytes_are : bytes ≡ done ++ items.unread
  pub joined : HasTakenIn items done given
  pub going : items.ending ≡ None

-- the feed was ended by this answer
abbrev pub HasEnded : Progress → Ending → Type 0
HasEnded items ending = items.ending ≡ Some ending

-- The bytes were read and gave these items; or they are all that the source had, and there are no more items.
abbrev pub HasTaken : Progress → (left : Option (List ℕ)) → (bytes : List ℕ) → List Item → Type 0
HasTaken items left bytes given = GoesFurther items bytes given ⊎ (HasEnded items End × IsSpent left × HasItems bytes given AtEnd)

-- Behind these items the feed has ended so.
abbrev pub Ends : Ending → (left : Option (List ℕ)) → (bytes : List ℕ) → List Item → Type 0
Ends End left bytes given = IsSpent left × HasItems bytes given AtEnd
Ends (Fault fault) left bytes given =
    ((rest : List ℕ) → HasItems (bytes ++ rest) given (AtFault fault.line fault.kind)) ⊎ (IsSpent left × HasItems bytes given (AtFault fault.line fault.kind))
Ends ReadFault left bytes given = AreWhole bytes given
Ends Memory left bytes given = Unit {0}

-- what is known behind an answer, by all bytes that were read
abbrev pub Answers : Taken → Progress → (left : Option (List ℕ)) → (bytes : List ℕ) → List Item → Type 0
Answers (taken.Item item) new left bytes given = (brought : Item) × IsItem item brought × HasTaken new left bytes (given ++ brought ∷ [])
Answers taken.End new left bytes given = Ends End left bytes given
Answers (taken.Fault fault) new left bytes given = Ends (Fault fault) left bytes given
Answers taken.ReadFault new left bytes given = Ends ReadFault left bytes given
Answers taken.Memory new left bytes given = Unit {0}

-- Some more bytes were read, and the answer is that of all of them.
abbrev pub TakesBy : Taken → Progress → (left after : Option (List ℕ)) → (bytes : List ℕ) → List Item → Type 0
TakesBy result new left after bytes given = (more : List ℕ) × TakesFrom left more after × Answers result new after (bytes ++ more) given

-- what is known behind an answer, or where there is none yet
abbrev pub AnswersSoFar : Option Taken → Progress → (left : Option (List ℕ)) → (bytes : List ℕ) → List Item → Type 0
AnswersSoFar (Some taken) new left bytes given = Answers taken new left bytes given
AnswersSoFar None new left bytes given = GoesFurther new bytes given

-- Every byte that was read is taken, and no answer has ended the feed.
abbrev pub IsDrained : Progress → Type 0
IsDrained items = (items.unread ≡ []) × (items.ending ≡ None)

-- The next piece is read where all bytes that were read are taken.
abbrev pub Refills : Option Taken → (old new : Progress) → (left after : Option (List ℕ)) → Type 0
Refills result old new left after =
    (bytes : List ℕ) (given : List Item) → HasTakenIn old bytes given → old.ending ≡ None → (more : List ℕ) × TakesFrom left more after × AnswersSoFar result new after (bytes ++ more) given

-- and where the bytes are all
abbrev pub FinishesBy : Taken → (old new : Progress) → Type 0
FinishesBy result old new = (bytes : List ℕ) (given : List Item) (left : Option (List ℕ)) → HasTakenIn old bytes given → IsSpent left → Answers result new left bytes given
