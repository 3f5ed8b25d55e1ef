-- What a call leaves of a memo: `automata` is the program that it works for, `stands_for` says which set a value
-- stands for, and `tells` which steps it made and which sets it held.
use Rattle.std.specs.Prelude.{◌≡◌, ℕ, List, [], ◌++◌}
use Rattle.px_afa.specs.Building.{Automata}
use Rattle.px_afa.specs.Steps.{Step}
use Rattle.px_runner.specs.declared.held.Held.{Held}

-- It works for the same program, and what stood for a set goes on standing for it.
pub record Keeps {M : Type 0} (automata : M → Automata) (stands_for : M → Held → List ℕ → Type 0) (old new : M) : Type 0 where
  pub same : automata new ≡ automata old
  pub stays : (held : Held) (set : List ℕ) → stands_for old held set → stands_for new held set

-- And it tells these steps and sets more.
pub record Advances {M : Type 0} (automata : M → Automata) (stands_for : M → Held → List ℕ → Type 0) (tells : M → List Step → List (List ℕ) → Type 0)
    (old new : M) (steps : List Step) (sets : List (List ℕ)) : Type 0 where
  pub keeps : Keeps automata stands_for old new
  pub told : (before : List Step) (held : List (List ℕ)) → tells old before held → tells new (before ++ steps) (held ++ sets)

-- And the value stands for the answer of the last step.
pub record Makes {M : Type 0} (automata : M → Automata) (stands_for : M → Held → List ℕ → Type 0) (tells : M → List Step → List (List ℕ) → Type 0)
    (old new : M) (held : Held) (steps : List Step) (answer : List ℕ) : Type 0 where
  pub advances : Advances automata stands_for tells old new steps []
  pub stands : stands_for new held answer
