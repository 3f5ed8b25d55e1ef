-- Where tokens lead the machine, within the limits.
use Rattle.std.specs.Prelude.{◌≡◌, ℕ, ◌+◌, ◌<◌, Bool, true, false, not, nat_le, List, [], ◌∷◌, Some, None, IsTrue}
use Rattle.px_xpath.specs.declared.descent.Reason.{Reason}
use Rattle.px_xpath.specs.declared.descent.Reason.TheVariants.{NotAFilter, TooNested, NumberLong}
use Rattle.px_xpath.specs.declared.descent.Stop.{Stop}
use Rattle.px_xpath.specs.declared.descent.Stop.TheVariants.{Memory, At}
use Rattle.px_xpath.specs.Tokens.{Token, Placed, OpenSquare, Open, Numeric}
use Rattle.px_xpath.specs.TokenViews.{all_placed}
use Rattle.px_xpath.specs.Faults.{is_long}
use Rattle.px_xpath.specs.Machine.{Around, Whole, Within, Group, Square, Round, State, Start, BeforeStep, BehindAt, BehindText, BehindTextOpen, BehindElement, BehindLast, BeforeUnary, BehindNot, BehindDot, BehindRelation, BehindMinus, BehindUnary, step, may_end}

abbrev mutual
  -- how many brackets are open round a path, and round a condition
  pub height_around : Around → ℕ
  height_around Whole = 0
  height_around (Within group) = height_in group

  pub height_in : Group → ℕ
  height_in (Square around) = height_around around + 1
  height_in (Round group) = height_in group + 1

abbrev pub height : State → ℕ
height Start = 0
height (BeforeStep around) = height_around around
height (BehindAt around) = height_around around
height (BehindText around) = height_around around
height (BehindTextOpen around) = height_around around
height (BehindElement around) = height_around around
height (BehindLast around) = height_around around
height (BeforeUnary group) = height_in group
height (BehindNot group) = height_in group
height (BehindDot group) = height_in group
height (BehindRelation r group) = height_in group
height (BehindMinus group) = height_in group
height (BehindUnary group) = height_in group

-- whether a token that leads to the state is within the limits
abbrev pub fits : Token → State → Bool
fits OpenSquare (BeforeUnary group) = nat_le (height_in group) 64
fits Open (BeforeUnary group) = nat_le (height_in group) 64
fits (Numeric whole fraction) next = not (is_long (Numeric whole fraction))
fits _ next = true

-- no matter which of the two states stands before the tokens
abbrev pub Alike : State → State → List Placed → Type 0
Alike s end [] = may_end s ≡ may_end end
Alike s end (p ∷ ts) = step s p.token ≡ step end p.token

-- From the first state the tokens up to the rest lead to one that is as good as the second.
pub data Leads : State → List Placed → State → List Placed → Type 0 where
  stays : {s end : State} {ts : List Placed} → Alike s end ts → Leads s ts end ts
  moves : {s next end : State} {p : Placed} {ts rest : List Placed} →
      step s p.token ≡ Some next → fits p.token next ≡ true → Leads next ts end rest → Leads s (p ∷ ts) end rest

-- behind the state the first of the tokens stops the parse for this reason
abbrev pub IsStopped : Reason → State → List Placed → Type 0
IsStopped NotAFilter s [] = may_end s ≡ false
IsStopped NotAFilter s (p ∷ ts) = step s p.token ≡ None
IsStopped TooNested s [] = ⊥
IsStopped TooNested s (p ∷ ts) = (next : State) × (step s p.token ≡ Some next) × (64 < height next)
IsStopped NumberLong s [] = ⊥
IsStopped NumberLong s (p ∷ ts) = (next : State) × (step s p.token ≡ Some next) × IsTrue (is_long p.token)

-- from the state the tokens lead to the first that stops the parse, for its reason
abbrev pub Stops : State → List Placed → Stop → Type 0
Stops s ts Memory = Unit {0}
Stops s ts (At reason rest) = (end : State) × Leads s ts end (all_placed rest.now) × IsStopped reason end (all_placed rest.now)
