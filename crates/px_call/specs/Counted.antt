-- What a call over a bank counts: how it came by each of its steps, and what it wrote.
use Rattle.std.specs.Prelude.{◌≡◌, ◌⊎◌, ℕ, ◌+◌, ◌<◌, ◌≤◌, true, List, [], ◌∷◌, map, reverse, Some, None, All}
use mathlib.Core.Option.{some}
use lib.ListN.{get_elem?}
use Rattle.px_text.specs.declared.op.Op.{Op}
use Rattle.px_text.specs.Operands.{Operand, set_of}
use Rattle.px_afa.specs.Steps.{Step}
use Rattle.px_rule.specs.declared.shape.Shape.{Shape}
use Rattle.px_rule.specs.declared.view.View.{View}
use Rattle.px_rule.specs.Words.{step_word}
use Rattle.px_rule.specs.Kept.{IsAt, Since, Wrote, KeyBlocked, Tells, Sound, SetBlocked, SuffixWord}
use Rattle.px_call.specs.declared.tally.Tally.{Tally}
use Rattle.px_call.specs.Steps.{Same, Numbered, StepKept, StepComputed, Cause}

-- how a step was come by
pub data Fate : Type 0 where
  found : Fate
  computed : Fate
  own : Fate

pub record Mark : Type 0 where
  pub fate : Fate
  pub step : Step

abbrev pub step_of : Mark → Step
step_of m = m.step

abbrev pub is_found : Fate → ℕ
is_found found = 1
is_found _ = 0

abbrev pub is_computed : Fate → ℕ
is_computed computed = 1
is_computed _ = 0

abbrev pub is_own : Fate → ℕ
is_own own = 1
is_own _ = 0

-- how many steps were come by so
abbrev pub times : (Fate → ℕ) → List Mark → ℕ
times f [] = 0
times f (m ∷ ms) = times f ms + f m.fate

abbrev pub Among : {A : Type 0} → List A → A → Type 0
Among xs x = (i : ℕ) × (get_elem? xs i ≡ some x)

-- the bank has the step
abbrev pub IsInBank : Fate → Type 0
IsInBank own = ⊥
IsInBank _ = Unit {0}

-- A set of the call: an operand or answer of a step, or a set that was held
pub data SetOf (steps : List Step) (sets : List (List ℕ)) : List ℕ → Type 0 where
  of_first : (s : Step) (x : List ℕ) → Among steps s → s.a ≡ set_of x → SetOf steps sets x
  of_second : (s : Step) (x : List ℕ) → Among steps s → s.b ≡ set_of x → SetOf steps sets x
  of_answer : (s : Step) → Among steps s → SetOf steps sets s.answer
  of_held : (x : List ℕ) → Among sets x → SetOf steps sets x

module _ {E : Type 0} (right : List E → Op → Operand → Operand → List ℕ → Type 0) (z : Shape) (k n : ℕ) where
  -- A word of the call: the node word of a rest of a set, or the word of a step
  pub data WordOf (v : View E) (steps : List Step) (sets : List (List ℕ)) : ℕ → Type 0 where
    of_set : (x : List ℕ) (w : ℕ) → SetOf steps sets x → SuffixWord right z k n v x w → WordOf v steps sets w
    of_step : (s : Step) (a b r : ℕ) → Among steps s → Numbered right z k n v s a b → Tells right z k n v true r (set_of s.answer) → WordOf v steps sets (step_word s.op a b r)

module _ {E : Type 0} (right : List E → Op → Operand → Operand → List ℕ → Type 0) (z : Shape) (k n : ℕ) (began : View E) where
  -- what the view shows of a step, by how it was come by
  abbrev pub Shows : View E → Fate → Step → Type 0
  Shows v found s = StepKept right z k n v s
  Shows v computed s = StepComputed right z k n began v s
  Shows v own s = Cause right z k n v s

  -- a computed step was not kept when the call began, and is none of those that were found or computed before
  abbrev pub IsNew : List Mark → Fate → Step → Type 0
  IsNew ms computed s = (StepKept right z k n began s → ⊥) × All (λ (m : Mark). IsInBank m.fate → Same m.step s → ⊥) ms
  IsNew ms _ s = Unit {0}

  abbrev pub EachNew : List Mark → Type 0
  EachNew [] = Unit {0}
  EachNew (m ∷ ms) = IsNew ms m.fate m.step × EachNew ms

  -- What the call counted since the view with which it began. The marks and the sets stand with the latest first
  pub record Counted (v : View E) (tally : Tally) (marks : List Mark) (sets : List (List ℕ)) : Type 0 where
    pub founds : tally.found ≡ times is_found marks
    pub computeds : tally.computed ≡ times is_computed marks
    pub owns : tally.own ≡ times is_own marks
    pub since : Since n began v
    pub sound : Sound right z k n v
    pub touched : began.touch.touches + tally.found + tally.computed ≤ v.touch.touches
    pub shows : All (λ (m : Mark). Shows v m.fate m.step) marks
    pub each_new : EachNew marks
    pub wrote : Wrote (IsAt k n (WordOf right z k n v (map step_of marks) sets)) began v
    pub settled : tally.full ≡ None → tally.own ≡ 0
    pub blocked : (w : ℕ) → tally.full ≡ Some w → KeyBlocked z k n w v
    pub some_own : (w : ℕ) → tally.full ≡ Some w → (0 < tally.own) ⊎ ((x : List ℕ) × Among sets x × ((word : ℕ) × SetBlocked right z k n v x word))

  -- The same of the steps and the sets in their order
  pub record Counts (v : View E) (tally : Tally) (steps : List Step) (sets : List (List ℕ)) : Type 0 where
    pub marks : List Mark
    pub held : List (List ℕ)
    pub steps_are : steps ≡ reverse (map step_of marks)
    pub sets_are : sets ≡ reverse held
    pub counted : Counted v tally marks held
