-- The operands of a step that are of a program.
use Rattle.std.specs.Prelude.{◌≡◌, ℕ, ◌+◌, ◌*◌, ◌<◌, ◌≤◌, List, [], ◌∷◌, length}
use Rattle.px_text.specs.declared.op.Op.{Op}
use Rattle.px_text.specs.declared.op.Op.TheVariants.{TextClass, NumberClass, Pop, Add, Push, Mask}
use Rattle.px_text.specs.Operands.{Operand, index, set_of}
use Rattle.px_afa.specs.declared.state.State.{State}
use Rattle.px_afa.specs.Labels.{names_of}
use Rattle.px_afa.specs.Classes.{literals_of, constants_of}
use Rattle.px_afa.specs.Steps.{TakesOperands}
use Rattle.px_runner.specs.declared.held.Held.{Held}
use Rattle.px_runner.specs.declared.held.Held.TheVariants.{Plain}

-- each number is below the bound
abbrev pub AreBelow : ℕ → List ℕ → Type 0
AreBelow bound [] = Unit {0}
AreBelow bound (n ∷ set) = (n < bound) × AreBelow bound set

-- the set has states of the program alone
abbrev pub AreStates : List State → List ℕ → Type 0
AreStates states set = AreBelow (length states) set

abbrev pub IsTextClass : List State → ℕ → Type 0
IsTextClass states class = class ≤ length (literals_of states)

abbrev pub IsNumberClass : List State → ℕ → Type 0
IsNumberClass states class = class ≤ 2 * length (constants_of states) + 1

abbrev pub IsLabel : List State → ℕ → Type 0
IsLabel states label = label < length (names_of states) + 3

-- sets have states of the program, and classes and labels are its own
abbrev pub AreOfProgram : List State → Op → Operand → Operand → Type 0
AreOfProgram states TextClass first (index class) = IsTextClass states class
AreOfProgram states NumberClass first (index class) = IsNumberClass states class
AreOfProgram states Pop (set_of set) (index label) = AreStates states set × IsLabel states label
AreOfProgram states Add (set_of a) (set_of b) = AreStates states a × AreStates states b
AreOfProgram states Push (set_of needed) (index label) = AreStates states needed × IsLabel states label
AreOfProgram states Mask (set_of a) (set_of b) = AreStates states a × AreStates states b
AreOfProgram states _ a b = ⊥

abbrev pub IsPlain : Held → ℕ → Type 0
IsPlain (Plain n) k = n ≡ k
IsPlain _ k = ⊥

abbrev pub IsOperand : (Held → List ℕ → Type 0) → Held → Operand → Type 0
IsOperand stands_for held (set_of set) = stands_for held set
IsOperand stands_for held (index k) = IsPlain held k

-- The values are these operands, which the operation takes under the program.
pub record AreOperands (states : List State) (stands_for : Held → List ℕ → Type 0) (op : Op) (a b : Held) (x y : Operand) : Type 0 where
  pub first : IsOperand stands_for a x
  pub second : IsOperand stands_for b y
  pub taken : TakesOperands op x y
  pub known : AreOfProgram states op x y
