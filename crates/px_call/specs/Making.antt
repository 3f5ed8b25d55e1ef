-- What making a step over a bank gives, and holding a set there: v is the view before, and w the view after.
use Rattle.std.specs.Prelude.{◌≡◌, ℕ, ◌+◌, ◌<◌, ◌^◌, true, List}
use Rattle.px_text.specs.declared.op.Op.{Op}
use Rattle.px_text.specs.Operands.{Operand, set_of}
use Rattle.px_afa.specs.declared.state.State.{State}
use Rattle.px_afa.specs.Steps.{Step, step}
use Rattle.px_rule.specs.declared.shape.Shape.{Shape}
use Rattle.px_rule.specs.declared.view.View.{View}
use Rattle.px_rule.specs.Words.{Small, step_word}
use Rattle.px_rule.specs.Table.{bank_in, version_in}
use Rattle.px_rule.specs.Kept.{Grew, IsAt, Wrote, KeptAt, Tells, SetBlocked}
use Rattle.px_runner.specs.declared.held.Held.{Held}
use Rattle.px_runner.specs.declared.held.Held.TheVariants.{Plain, Numbered, Own}
use Rattle.px_runner.specs.Operands.{AreOperands}
use Rattle.px_intern.specs.Answers.{IsSound}
use Rattle.px_call.specs.declared.stepping.Outcome.{Outcome}
use Rattle.px_call.specs.declared.stepping.Outcome.TheVariants as outcome
use Rattle.px_call.specs.declared.tally.Tally.{Tally}
use Rattle.px_call.specs.Steps.{Asked, WordFor}
use Rattle.px_call.specs.Outcomes.{OneMore, first_full, Reads, Computes, KeyFull, SetFull}
use Rattle.px_call.specs.Values.{IsValue}

module _ {E : Type 0} (right : List E → Op → Operand → Operand → List ℕ → Type 0) (z : Shape) (k n : ℕ) where
  -- The step's word stands, and its answer has the number
  pub record IsPut (v w : View E) (s : Step) (a b r : ℕ) : Type 0 where
    pub place : ℕ
    pub kept : KeptAt k n place (step_word s.op a b r) w
    pub wrote : Wrote (IsAt k n (WordFor right z k n w s)) v w
    pub told : Tells right z k n w true r (set_of s.answer)
    pub small : Small r

  -- a step that was not found
  abbrev pub IsFilled : View E → View E → Step → (a b : ℕ) → Outcome → Type 0
  IsFilled v w s a b (outcome.Found r) = ⊥
  IsFilled v w s a b (outcome.Computed r) = IsPut v w s a b r
  IsFilled v w s a b (outcome.KeyFull r word) = KeyFull right z k n v w s r word
  IsFilled v w s a b (outcome.SetFull set word) = SetFull right z k n v w s set word

  abbrev pub IsMade : View E → View E → Step → (a b : ℕ) → Outcome → Type 0
  IsMade v w s a b (outcome.Found r) = Reads right z k n v w s r
  IsMade v w s a b (outcome.Computed r) = Computes right z k n v w s a b r
  IsMade v w s a b (outcome.KeyFull r word) = KeyFull right z k n v w s r word
  IsMade v w s a b (outcome.SetFull set word) = SetFull right z k n v w s set word

  -- the value is a number of the set, or the set itself where it has no room
  abbrev pub IsHeld : View E → Held → List ℕ → Type 0
  IsHeld w (Plain a) x = ⊥
  IsHeld w (Numbered r) x = Small r × Tells right z k n w true r (set_of x)
  IsHeld w (Own set) x = (set ≡ x) × ((word : ℕ) × SetBlocked right z k n w x word)

  -- A step with an operand that the bank has no room for
  pub record IsBeside (v w : View E) (s : Step) (held : Held) : Type 0 where
    pub wrote : Wrote (IsAt k n (WordFor right z k n w s)) v w
    pub answer : IsHeld w held s.answer

  -- A set is held, and where it has no room the counts have a word that found none
  abbrev pub IsKept : View E → List ℕ → Held → Tally → Tally → Type 0
  IsKept w x (Plain a) old new = ⊥
  IsKept w x (Numbered r) old new = (new ≡ old) × Small r × Tells right z k n w true r (set_of x)
  IsKept w x (Own set) old new = (set ≡ x) × ((word : ℕ) × (new ≡ record old { full = first_full old.full word }) × SetBlocked right z k n w x word)

-- The same of the bank and the version that the seat is inside at
module _ {E : Type 0} (right : List E → Op → Operand → Operand → List ℕ → Type 0) (z : Shape) where
  abbrev pub Puts : Op → (a b r : ℕ) → View E → View E → Outcome → Type 0
  Puts op a b r v w o = (s : Step) → Asked right z (bank_in v.stay.place) (version_in v.stay.place) v op a b s → Tells right z (bank_in v.stay.place) (version_in v.stay.place) v true r (set_of s.answer)
      → IsFilled right z (bank_in v.stay.place) (version_in v.stay.place) v w s a b o

  abbrev pub Fills : List State → Op → Held → Held → (a b : ℕ) → View E → View E → Outcome → Type 0
  Fills states op p q a b v w o = (x y : Operand) → AreOperands states (IsValue right z v) op p q x y
      → IsFilled right z (bank_in v.stay.place) (version_in v.stay.place) v w (step states op x y) a b o

  abbrev pub Makes : List State → Op → Held → Held → (a b : ℕ) → View E → View E → Outcome → Type 0
  Makes states op p q a b v w o = (x y : Operand) → AreOperands states (IsValue right z v) op p q x y
      → IsMade right z (bank_in v.stay.place) (version_in v.stay.place) v w (step states op x y) a b o

  abbrev pub MakesBeside : List State → Op → Held → Held → View E → View E → Held → Type 0
  MakesBeside states op p q v w held = (x y : Operand) → AreOperands states (IsValue right z v) op p q x y
      → IsBeside right z (bank_in v.stay.place) (version_in v.stay.place) v w (step states op x y) held

  -- The seat looked and wrote, and is where it was
  pub record Works (v w : View E) : Type 0 where
    pub grew : Grew v w
    pub sound : IsSound right z w

-- so many steps more, as long as the counts are numbers of 64 bits
abbrev pub IsTallied : Tally → Tally → (founds computeds owns : ℕ) → Type 0
IsTallied old new founds computeds owns = old.found + old.computed + old.own < 2 ^ 63 → OneMore old new founds computeds owns

-- the counts and the value behind a step
abbrev pub IsBooked : Tally → Tally → Outcome → Held → Type 0
IsBooked old new (outcome.Found r) held = IsTallied old new 1 0 0 × (new.full ≡ old.full) × (held ≡ Numbered r)
IsBooked old new (outcome.Computed r) held = IsTallied old new 0 1 0 × (new.full ≡ old.full) × (held ≡ Numbered r)
IsBooked old new (outcome.KeyFull r word) held = IsTallied old new 0 0 1 × (new.full ≡ first_full old.full word) × (held ≡ Numbered r)
IsBooked old new (outcome.SetFull set word) held = IsTallied old new 0 0 1 × (new.full ≡ first_full old.full word) × (held ≡ Own set)
