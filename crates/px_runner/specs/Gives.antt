-- What calls over a memo give, where operands stand for sets of states of its program.
use Rattle.std.specs.Prelude.{ℕ, List, [], ◌∷◌}
use Rattle.px_text.specs.declared.op.Op.TheVariants.{TextClass, NumberClass, Add}
use Rattle.px_text.specs.Operands.{index, set_of}
use Rattle.px_afa.specs.declared.state.State.{State}
use Rattle.px_afa.specs.Building.{Automata}
use Rattle.px_afa.specs.Sets.{add, mask}
use Rattle.px_afa.specs.Functions.{value_text, value_number, pop}
use Rattle.px_afa.specs.Steps.{Step, step}
use Rattle.px_runner.specs.declared.held.Held.{Held}
use Rattle.px_runner.specs.Operands.{AreStates}
use Rattle.px_runner.specs.Memos.{Advances}

-- The value stands for the set, which has states of the program alone.
pub record Holds {M : Type 0} (automata : M → Automata) (stands_for : M → Held → List ℕ → Type 0) (memo : M) (held : Held) (set : List ℕ) : Type 0 where
  pub stands : stands_for memo held set
  pub states_alone : AreStates (automata memo).states set

-- The memo tells these steps more, and the value holds the answer of the last.
pub record Gives {M : Type 0} (automata : M → Automata) (stands_for : M → Held → List ℕ → Type 0) (tells : M → List Step → List (List ℕ) → Type 0)
    (old new : M) (held : Held) (steps : List Step) (answer : List ℕ) : Type 0 where
  pub advances : Advances automata stands_for tells old new steps []
  pub holds : Holds automata stands_for new held answer

-- the values of texts of these classes, and their steps
abbrev pub class_values : List State → (text number : ℕ) → List ℕ
class_values states text number = add (value_text states text) (value_number states number)

abbrev pub class_steps : List State → (text number : ℕ) → List Step
class_steps states text number =
    step states TextClass (index 0) (index text)
    ∷ step states NumberClass (index 0) (index number)
    ∷ step states Add (set_of (value_text states text)) (set_of (value_number states number))
    ∷ []

-- what has been gathered after a child with the label and the set
abbrev pub raised : List State → (needed gathered set : List ℕ) → (label : ℕ) → List ℕ
raised states needed gathered set label = add gathered (mask (pop states set label) needed)
