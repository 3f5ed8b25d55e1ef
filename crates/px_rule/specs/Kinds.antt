-- The kinds by which words name the operations.
use Rattle.std.specs.Prelude.{ℕ}
use Rattle.px_text.specs.declared.op.Op.{Op}
use Rattle.px_text.specs.declared.op.Op.TheVariants.{TextClass, NumberClass, Pop, Add, Push, Mask}

abbrev pub kind_of : Op → ℕ
kind_of TextClass = 2
kind_of NumberClass = 3
kind_of Pop = 4
kind_of Add = 5
kind_of Push = 6
kind_of Mask = 7
