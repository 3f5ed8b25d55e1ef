-- What the operands of a step stand for, and what was read of them.
use Rattle.std.specs.Prelude.{◌≡◌, ℕ, List}
use Rattle.px_text.specs.declared.op.Op.{Op}
use Rattle.px_text.specs.Operands.{Operand, index, set_of}
use Rattle.px_afa.specs.Steps.{TakesOperands}
use Rattle.px_rule.specs.declared.shape.Shape.{Shape}
use Rattle.px_rule.specs.declared.view.View.{View}
use Rattle.px_rule.specs.Kept.{Grew}
use Rattle.px_runner.specs.declared.held.Held.{Held}
use Rattle.px_runner.specs.declared.held.Held.TheVariants.{Plain, Numbered, Own}
use Rattle.px_runner.specs.Operands.{IsOperand}
use Rattle.px_intern.specs.Answers.{IsSound, Names}

module _ {E : Type 0} (right : List E → Op → Operand → Operand → List ℕ → Type 0) (z : Shape) where
  -- a number stands for the set that it names by what the view keeps, and a set for itself
  abbrev pub IsValue : View E → Held → List ℕ → Type 0
  IsValue v (Plain a) x = ⊥
  IsValue v (Numbered s) x = Names right z v s x
  IsValue v (Own set) x = set ≡ x

  -- The seat looked at places and wrote none
  pub record OnlyLooked (v w : View E) : Type 0 where
    pub grew : Grew v w
    pub sound : IsSound right z w
    pub wrote : w.touch.wrote ≡ v.touch.wrote

-- where the operand is a set, it is this one
abbrev pub IsSetOf : List ℕ → Operand → Type 0
IsSetOf set (set_of x) = set ≡ x
IsSetOf set (index k) = Unit {0}

-- The sets are those of the operands, which the operation takes, and the second value is the class or the label
pub record AreRead (op : Op) (first second : List ℕ) (b : Held) (x y : Operand) : Type 0 where
  pub first_is : IsSetOf first x
  pub second_is : IsOperand (λ _ set. second ≡ set) b y
  pub taken : TakesOperands op x y
