-- What the bodies of states need.
use Rattle.std.specs.Prelude.{ℕ, zero, suc, Bool, false, ◌&&◌, List, [], ◌∷◌, ◌++◌, length, Option, Some, nat_eq}
use Rattle.px_afa.specs.declared.state.State.{State}
use Rattle.px_afa.specs.declared.state.State.TheVariants as state
use Rattle.px_afa.specs.Truth.{state_at}
use Rattle.px_afa.specs.Sets.{needs, body_needs}
use Rattle.px_afa.specs.Labels.{names_of, is_element_label, label_at}
use Rattle.px_afa.specs.Tables.{is_met}
use Rattle.px_afa.specs.Functions.{body_need}
use Rattle.px_step.specs.Popping.{is_lasting}

-- the states that the body of a Path state needs, rising
abbrev pub path_need : List State → Option State → List ℕ
path_need states (Some (state.Path axis t b)) = body_need states b
path_need states _ = []

-- a row for each number below n
abbrev pub rows_below : ℕ → (ℕ → List ℕ) → List (List ℕ)
rows_below zero row = []
rows_below (suc n) row = rows_below n row ++ row n ∷ []

-- for each state, by its number, the states that its body needs
abbrev pub needs_of : List State → List (List ℕ)
needs_of states = rows_below (length states) (λ n. path_need states (state_at states n))

abbrev pub path_needs : List State → Option State → ℕ → Bool
path_needs states (Some (state.Path axis t b)) k = body_needs (needs states) b k
path_needs states _ k = false

-- the child meets the test of state p, and its body needs state k
abbrev pub is_met_need : List State → (label p k : ℕ) → Bool
is_met_need states label p k = is_met (label_at states label) (state_at states p) && path_needs states (state_at states p) k

-- state p is looked for below the child too
abbrev pub is_lasting_need : List State → (label p k : ℕ) → Bool
is_lasting_need states label p k = (is_element_label (names_of states) label && is_lasting (state_at states p)) && nat_eq p k
