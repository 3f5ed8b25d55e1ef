-- The functions on sets under the states of a program. `add`, `mask` and `accept` stand in `Sets`.
use Rattle.std.specs.Prelude.{ℕ, List, length}
use Rattle.px_afa.specs.declared.state.Body.{Body}
use Rattle.px_afa.specs.declared.state.State.{State}
use Rattle.px_afa.specs.Truth.{state_at}
use Rattle.px_afa.specs.Sets.{numbers_where, pop_of, needs, body_needs, push_of}
use Rattle.px_afa.specs.Labels.{label_at}
use Rattle.px_afa.specs.Classes.{text_value_true, number_value_true}

-- the Value states with a string literal that are true of a text of the class
abbrev pub value_text : List State → (class : ℕ) → List ℕ
value_text states class = numbers_where (length states) (λ n. text_value_true states class (state_at states n))

-- the Value states with a number that are true of a text of the class
abbrev pub value_number : List State → (class : ℕ) → List ℕ
value_number states class = numbers_where (length states) (λ n. number_value_true states class (state_at states n))

-- the states that a child with the set and the label makes true for its parent
abbrev pub pop : List State → List ℕ → (label : ℕ) → List ℕ
pop states set label = pop_of states set (label_at states label)

-- the states that are needed inside a child with the label, for those that are wanted of its parent
abbrev pub push : List State → List ℕ → (label : ℕ) → List ℕ
push states wanted label = push_of states wanted (label_at states label)

-- the states that a state needs, rising
abbrev pub need : List State → ℕ → List ℕ
need states n = numbers_where (length states) (needs states n)

-- the states that a body needs, rising
abbrev pub body_need : List State → Body → List ℕ
body_need states b = numbers_where (length states) (body_needs (needs states) b)
