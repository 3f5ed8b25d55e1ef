-- What making one step over a bank gives: v is the view before, and w the view after.
use Rattle.std.specs.Prelude.{◌≡◌, ℕ, ◌+◌, ◌<◌, true, List, Option, Some, None}
use Rattle.px_text.specs.declared.op.Op.{Op}
use Rattle.px_text.specs.Operands.{Operand, set_of}
use Rattle.px_afa.specs.Steps.{Step}
use Rattle.px_rule.specs.declared.shape.Shape.{Shape}
use Rattle.px_rule.specs.declared.view.View.{View}
use Rattle.px_rule.specs.Words.{Small, step_word}
use Rattle.px_rule.specs.Kept.{Grew, IsAt, Wrote, NoneKept, KeyBlocked, Tells, Sound, SetBlocked}
use Rattle.px_call.specs.declared.tally.Tally.{Tally}
use Rattle.px_call.specs.Steps.{Numbered, StepKept, StepComputed, Cause, WordFor}

-- the first word that found no place
abbrev pub first_full : Option ℕ → ℕ → Option ℕ
first_full None w = Some w
first_full (Some x) w = Some x

-- One tally has so many more of each than the other
pub record OneMore (t t' : Tally) (founds computeds owns : ℕ) : Type 0 where
  pub found : t'.found ≡ t.found + founds
  pub computed : t'.computed ≡ t.computed + computeds
  pub own : t'.own ≡ t.own + owns

module _ {E : Type 0} (right : List E → Op → Operand → Operand → List ℕ → Type 0) (z : Shape) (k n : ℕ) where
  -- The step was found
  pub record Reads (v w : View E) (s : Step) (r : ℕ) : Type 0 where
    pub touched : v.touch.touches < w.touch.touches
    pub wrote : w.touch.wrote ≡ v.touch.wrote
    pub kept : StepKept right z k n w s
    pub told : Tells right z k n w true r (set_of s.answer)
    pub small : Small r

  -- The key was free in a view between, and the word stands now
  pub record Computes (v w : View E) (s : Step) (a b r : ℕ) : Type 0 where
    pub between : View E
    pub grew : Grew v between
    pub sound : Sound right z k n between
    pub touched : v.touch.touches < between.touch.touches
    pub numbers : Numbered right z k n between s a b
    pub none : NoneKept k n (step_word s.op a b 0) between
    pub grew_on : Grew between w
    pub wrote : Wrote (IsAt k n (WordFor right z k n w s)) v w
    pub computed : StepComputed right z k n v w s
    pub told : Tells right z k n w true r (set_of s.answer)
    pub small : Small r

  -- The answer has a number, and the bank has no room for the step
  pub record KeyFull (v w : View E) (s : Step) (r word : ℕ) : Type 0 where
    pub wrote : Wrote (IsAt k n (WordFor right z k n w s)) v w
    pub cause : Cause right z k n w s
    pub blocked : KeyBlocked z k n word w
    pub told : Tells right z k n w true r (set_of s.answer)
    pub small : Small r

  -- The bank has no room for the answer
  pub record SetFull (v w : View E) (s : Step) (set : List ℕ) (word : ℕ) : Type 0 where
    pub same : set ≡ s.answer
    pub wrote : Wrote (IsAt k n (WordFor right z k n w s)) v w
    pub answer : SetBlocked right z k n w s.answer word
