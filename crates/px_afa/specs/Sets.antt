-- Sets of states, as strictly rising lists of numbers, and what a set makes true.
use Rattle.std.specs.Prelude.{ℕ, zero, suc, Bool, true, false, not, ◌&&◌, ◌||◌, cond, List, [], ◌∷◌, ◌++◌, length, filter, Option, Some, nat_eq, nat_lt}
use Rattle.std.specs.List.{list_any, list_all}
use Rattle.px_text.specs.Sets.{has}
use Rattle.px_xpath.specs.declared.filter.Test.{Test}
use Rattle.px_afa.specs.declared.state.Body.{Body}
use Rattle.px_afa.specs.declared.state.Body.TheVariants as body
use Rattle.px_afa.specs.declared.state.State.{State}
use Rattle.px_afa.specs.declared.state.State.TheVariants as state
use Rattle.px_afa.specs.declared.state.First.{First}
use Rattle.px_afa.specs.Truth.{is_below, state_at}

-- the numbers below n that pass, rising
abbrev pub numbers_where : ℕ → (ℕ → Bool) → List ℕ
numbers_where zero passes = []
numbers_where (suc n) passes = numbers_where n passes ++ cond (passes n) (n ∷ []) []

abbrev pub with_number : ℕ → List ℕ → List ℕ
with_number x [] = x ∷ []
with_number x (y ∷ ys) = cond (nat_lt x y) (x ∷ y ∷ ys) (cond (nat_eq x y) (y ∷ ys) (y ∷ with_number x ys))

-- the union
abbrev pub add : List ℕ → List ℕ → List ℕ
add [] b = b
add (x ∷ a) b = with_number x (add a b)

-- the intersection
abbrev pub mask : List ℕ → List ℕ → List ℕ
mask a b = filter (has b) a

-- A set has Path and Value states. The others are true by their parts, of which `part` says whether they are true.
abbrev pub state_in : State → (set : ℕ → Bool) → ℕ → (part : ℕ → Bool) → Bool
state_in (state.Path axis t b) set n part = set n
state_in (state.And parts) set n part = list_all part parts
state_in (state.Or parts) set n part = list_any part parts
state_in (state.Not m) set n part = not (part m)
state_in (state.Value r wanted) set n part = set n

-- the state with this number is true in a set
abbrev pub true_in : List State → (set : ℕ → Bool) → ℕ → Bool
true_in [] set n = false
true_in (s ∷ before) set n = cond (nat_eq n (length before)) (state_in s set n (true_in before set)) (true_in before set n)

abbrev pub body_in : (part : ℕ → Bool) → Body → Bool
body_in part body.Always = true
body_in part (body.State n) = part n

-- what is known of a child by its label: which tests it meets, and whether it is an element
pub record Label : Type 0 where
  pub meets_test : Test → Bool
  pub of_element : Bool

-- a child with the label and the set makes this state true for its parent
abbrev pub popped_state : Option State → Label → (set : ℕ → Bool) → ℕ → (part : ℕ → Bool) → Bool
popped_state (Some (state.Path axis t b)) label set n part =
    (label.meets_test t && body_in part b) || (is_below axis && label.of_element && set n)
popped_state _ label set n part = false

abbrev pub popped : List State → Label → (set : ℕ → Bool) → ℕ → Bool
popped states label set n = popped_state (state_at states n) label set n (true_in states set)

-- the states that a child with the set makes true for its parent
abbrev pub pop_of : List State → List ℕ → Label → List ℕ
pop_of states set label = numbers_where (length states) (popped states label (has set))

abbrev pub need_state : State → ℕ → (part : ℕ → ℕ → Bool) → ℕ → Bool
need_state (state.Path axis t b) m part k = nat_eq m k
need_state (state.And parts) m part k = list_any (λ p. part p k) parts
need_state (state.Or parts) m part k = list_any (λ p. part p k) parts
need_state (state.Not p) m part k = part p k
need_state (state.Value r wanted) m part k = nat_eq m k

-- state m needs state k: its truth in a set looks at whether k is there
abbrev pub needs : List State → ℕ → ℕ → Bool
needs [] m k = false
needs (s ∷ before) m k = cond (nat_eq m (length before)) (need_state s m (needs before) k) (needs before m k)

abbrev pub body_needs : (part : ℕ → ℕ → Bool) → Body → ℕ → Bool
body_needs part body.Always k = false
body_needs part (body.State m) k = part m k

-- inside a child with the label, state k is needed for state p
abbrev pub pushed_state : Option State → Label → (part : ℕ → ℕ → Bool) → ℕ → ℕ → Bool
pushed_state (Some (state.Path axis t b)) label part p k =
    (label.meets_test t && body_needs part b k) || (is_below axis && label.of_element && nat_eq p k)
pushed_state _ label part p k = false

abbrev pub pushed : List State → Label → List ℕ → ℕ → Bool
pushed states label wanted k = list_any (λ p. pushed_state (state_at states p) label (needs states) p k) wanted

-- the states that are needed inside a child with the label, for those that are wanted of its parent
abbrev pub push_of : List State → List ℕ → Label → List ℕ
push_of states wanted label = numbers_where (length states) (pushed states label wanted)

-- the ids of the filters whose first state is in the set
abbrev pub accept : List First → List ℕ → List ℕ
accept [] set = []
accept (f ∷ firsts) set = cond (has set f.state) (f.id ∷ accept firsts set) (accept firsts set)

-- the first states of all filters
abbrev pub first_set : List First → List ℕ
first_set [] = []
first_set (f ∷ firsts) = with_number f.state (first_set firsts)
