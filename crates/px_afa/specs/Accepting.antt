-- Which filters a program accepts.
use Rattle.std.specs.Prelude.{◌≡◌, ℕ, cond, List, [], ◌∷◌, Some, IsTrue}
use Rattle.px_xpath.specs.declared.filter.Axis.{Axis}
use Rattle.px_xpath.specs.declared.filter.Test.{Test}
use Rattle.px_xpath.specs.Histories.{Subscription}
use Rattle.px_xpath.specs.Proper.{has_steps}
use Rattle.px_afa.specs.declared.state.Body.{Body}
use Rattle.px_afa.specs.declared.state.State.{State}
use Rattle.px_afa.specs.declared.state.State.TheVariants as state
use Rattle.px_afa.specs.declared.state.First.{First}
use Rattle.px_afa.specs.Contents.{Content, characters}
use Rattle.px_afa.specs.Truth.{true_at, state_at}
use Rattle.px_afa.specs.Sets.{accept, first_set}
use Rattle.px_afa.specs.Machine.{Machine, gathered_of, all_gathered}

-- the ids whose first state is true at the document root
abbrev pub true_firsts : List State → List First → Content → List ℕ
true_firsts states [] root = []
true_firsts states (f ∷ firsts) root =
    cond (true_at states f.state (characters root) root) (f.id ∷ true_firsts states firsts root) (true_firsts states firsts root)

-- The first state of a filter is a Path.
abbrev pub IsPath : List State → ℕ → Type 0
IsPath states n = (axis : Axis) × (test : Test) × (body : Body) × (state_at states n ≡ Some (state.Path axis test body))

abbrev pub ArePaths : List State → List First → Type 0
ArePaths states [] = Unit {0}
ArePaths states (f ∷ firsts) = IsPath states f.state × ArePaths states firsts

-- each filter has a step
abbrev pub HaveSteps : List Subscription → Type 0
HaveSteps [] = Unit {0}
HaveSteps (s ∷ live) = IsTrue (has_steps s.filter) × HaveSteps live

-- the ids that the machine accepts of a document, with only the needed states kept, and with all
abbrev pub accepted : Machine → List First → Content → List ℕ
accepted machine firsts root = accept firsts (gathered_of machine (first_set firsts) [] root)

abbrev pub accepted_of_all : Machine → List First → Content → List ℕ
accepted_of_all machine firsts root = accept firsts (all_gathered machine [] root)
