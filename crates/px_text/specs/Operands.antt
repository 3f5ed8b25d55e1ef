-- What a step of the machine is computed from.
use Rattle.std.specs.Prelude.{ℕ, List, Bool, true, false}
use Rattle.px_text.specs.declared.op.Op.{Op}
use Rattle.px_text.specs.declared.op.Op.TheVariants.{TextClass, NumberClass, Add, Mask}

-- a class or a label, or a set, which is a rising list of its elements
pub data Operand : Type 0 where
  index : ℕ → Operand
  set_of : List ℕ → Operand

-- whether the first operand of an operation is a set, and whether the second is
abbrev pub first_is_set : Op → Bool
first_is_set TextClass = false
first_is_set NumberClass = false
first_is_set _ = true

abbrev pub second_is_set : Op → Bool
second_is_set Add = true
second_is_set Mask = true
second_is_set _ = false
