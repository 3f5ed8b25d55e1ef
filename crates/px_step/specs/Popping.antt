-- What a child gives to its parent: the states whose body is true there, and those that last.
use Rattle.std.specs.Prelude.{ℕ, Bool, false, ◌&&◌, List, [], ◌∷◌, ◌++◌, filter, Option, Some}
use Rattle.px_afa.specs.declared.state.State.{State}
use Rattle.px_afa.specs.declared.state.State.TheVariants as state
use Rattle.px_afa.specs.Truth.{state_at, is_below}
use Rattle.px_afa.specs.Sets.{true_in, body_in}
use Rattle.px_afa.specs.Labels.{names_of, is_element_label, label_at}
use Rattle.px_afa.specs.Tables.{is_met, guarded_by}

-- a Path state whose body is true in a set
abbrev pub has_body : List State → (set : ℕ → Bool) → Option State → Bool
has_body states set (Some (state.Path axis t b)) = body_in (true_in states set) b
has_body states set _ = false

-- the child meets the state's test, and its body is true there
abbrev pub is_given : List State → (label : ℕ) → (set : ℕ → Bool) → ℕ → Bool
is_given states label set n = is_met (label_at states label) (state_at states n) && has_body states set (state_at states n)

-- a Path state of axis Below
abbrev pub is_lasting : Option State → Bool
is_lasting (Some (state.Path axis t b)) = is_below axis
is_lasting _ = false

-- a state that is true at a child with the label is true for its parent too
abbrev pub lasts : List State → (label : ℕ) → ℕ → Bool
lasts states label n = is_element_label (names_of states) label && is_lasting (state_at states n)

-- those that pass of the states that some member of a list guards
abbrev pub all_guarded : List State → (passes : ℕ → Bool) → List ℕ → List ℕ
all_guarded states passes [] = []
all_guarded states passes (g ∷ guards) = filter passes (guarded_by states g) ++ all_guarded states passes guards
