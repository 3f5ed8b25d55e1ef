-- What a view shows of a step of the machine, by what it keeps of bank k at version n.
use Rattle.std.specs.Prelude.{◌≡◌, ℕ, true, List, take}
use Rattle.px_text.specs.declared.op.Op.{Op}
use Rattle.px_text.specs.Operands.{Operand, index, set_of, first_is_set, second_is_set}
use Rattle.px_afa.specs.Steps.{Step}
use Rattle.px_rule.specs.declared.shape.Shape.{Shape}
use Rattle.px_rule.specs.declared.view.View.{View}
use Rattle.px_rule.specs.Words.{Small, step_word}
use Rattle.px_rule.specs.Kept.{KeptAt, KeyBlocked, GapGained, Tells, SetBlocked, SuffixWord}

-- the same function of the same operands
abbrev pub Same : Step → Step → Type 0
Same s t = (s.op ≡ t.op) × (s.a ≡ t.a) × (s.b ≡ t.b)

module _ {E : Type 0} (right : List E → Op → Operand → Operand → List ℕ → Type 0) (z : Shape) (k n : ℕ) where
  -- The numbers stand for the operands of the step
  pub record Numbered (v : View E) (s : Step) (a b : ℕ) : Type 0 where
    pub first : Tells right z k n v (first_is_set s.op) a s.a
    pub second : Tells right z k n v (second_is_set s.op) b s.b
    pub small : Small a × Small b

  -- The word of the step is kept: numbers of its operands, and of its answer
  pub record StepKept (v : View E) (s : Step) : Type 0 where
    pub a : ℕ
    pub b : ℕ
    pub r : ℕ
    pub place : ℕ
    pub numbers : Numbered v s a b
    pub small : Small r
    pub answer : Tells right z k n v true r (set_of s.answer)
    pub kept : KeptAt k n place (step_word s.op a b r) v

  -- And since the first view the path of its key was found to have an empty place, behind words of other keys
  pub record StepComputed (began v : View E) (s : Step) : Type 0 where
    pub stands : StepKept v s
    pub gap : GapGained z k n began.touch.touches (step_word s.op stands.a stands.b 0) v

  -- an operand that is a set without a place
  abbrev pub OperandBlocked : View E → Operand → Type 0
  OperandBlocked v (index a) = ⊥
  OperandBlocked v (set_of x) = (w : ℕ) × SetBlocked right z k n v x w

  -- No place is free for the key of the step
  pub record StepBlocked (v : View E) (s : Step) : Type 0 where
    pub a : ℕ
    pub b : ℕ
    pub numbers : Numbered v s a b
    pub blocked : KeyBlocked z k n (step_word s.op a b 0) v

  -- Why the bank has no room for a step: an operand, the answer or the key is blocked
  pub data Cause (v : View E) (s : Step) : Type 0 where
    by_first : OperandBlocked v s.a → Cause v s
    by_second : OperandBlocked v s.b → Cause v s
    by_answer : OperandBlocked v (set_of s.answer) → Cause v s
    by_key : StepBlocked v s → Cause v s

  -- A word that making a step may write: the node word of a rest of its answer, or its own
  pub data WordFor (v : View E) (s : Step) : ℕ → Type 0 where
    as_suffix : (w : ℕ) → SuffixWord right z k n v s.answer w → WordFor v s w
    as_step : (a b r : ℕ) → Numbered v s a b → Tells right z k n v true r (set_of s.answer) → WordFor v s (step_word s.op a b r)

  -- The step may be asked of the bank under these numbers, and its answer is right
  pub record Asked (v : View E) (op : Op) (a b : ℕ) (s : Step) : Type 0 where
    pub op_is : s.op ≡ op
    pub numbers : Numbered v s a b
    pub is_right : right (take n v.past.seen) s.op s.a s.b s.answer
