-- The answers of steps over sets of states of a program have states of it alone.
use Rattle.std.proofs.Common.{ℕ, zero, suc, ◌<◌, ◌≤◌, Bool, true, false, cond, List, [], ◌∷◌, ◌++◌, length, filter, nat_eq, nat_lt, arith}
use Rattle.px_text.specs.declared.op.Op.{Op}
use Rattle.px_text.specs.declared.op.Op.TheVariants.{TextClass, NumberClass, Pop, Add, Push, Mask}
use Rattle.px_text.specs.Operands.{Operand, index, set_of}
use Rattle.px_afa.specs.declared.state.State.{State}
use Rattle.px_afa.specs.declared.state.State.TheVariants as state
use Rattle.px_afa.specs.declared.state.First.{First}
use Rattle.px_afa.specs.Sets.{numbers_where, with_number, add, first_set}
use Rattle.px_afa.specs.Accepting.{ArePaths}
use Rattle.px_afa.proofs.Found.{state_at-below}
use Rattle.px_afa.specs.Steps.{answer_of}
use Rattle.px_runner.specs.Operands.{AreBelow, AreStates, AreOfProgram}

pub below-more : (a b : ℕ) (set : List ℕ) → a ≤ b → AreBelow a set → AreBelow b set
below-more a b [] h s = tt
below-more a b (n ∷ set) h s = let one = s.0 in (omega arith, below-more a b set h s.1)

pub below-append : (bound : ℕ) (xs ys : List ℕ) → AreBelow bound xs → AreBelow bound ys → AreBelow bound (xs ++ ys)
below-append bound [] ys p q = q
below-append bound (x ∷ xs) ys p q = (p.0, below-append bound xs ys p.1 q)

numbers_where-below : (size : ℕ) (p : ℕ → Bool) → AreBelow size (numbers_where size p)
numbers_where-below zero p = tt
numbers_where-below (suc size) p =
    below-append (suc size) (numbers_where size p) (cond (p size) (size ∷ []) []) (below-more size (suc size) (numbers_where size p) (omega arith) (numbers_where-below size p)) (last (p size))
  where
    last : (b : Bool) → AreBelow (suc size) (cond b (size ∷ []) [])
    last true = (omega arith, tt)
    last false = tt

with_number-below : (bound x : ℕ) (set : List ℕ) → x < bound → AreBelow bound set → AreBelow bound (with_number x set)
with_number-below bound x [] h s = (h, tt)
with_number-below bound x (y ∷ ys) h s = go (nat_lt x y) (nat_eq x y) (with_number-below bound x ys h s.1)
  where
    go : (lt eq : Bool) → AreBelow bound (with_number x ys) → AreBelow bound (cond lt (x ∷ y ∷ ys) (cond eq (y ∷ ys) (y ∷ with_number x ys)))
    go true eq ih = (h, s)
    go false true ih = s
    go false false ih = (s.0, ih)

add-below : (bound : ℕ) (a b : List ℕ) → AreBelow bound a → AreBelow bound b → AreBelow bound (add a b)
add-below bound [] b p q = q
add-below bound (x ∷ a) b p q = with_number-below bound x (add a b) p.0 (add-below bound a b p.1 q)

filter-below : (bound : ℕ) (p : ℕ → Bool) (a : List ℕ) → AreBelow bound a → AreBelow bound (filter p a)
filter-below bound p [] h = tt
filter-below bound p (x ∷ a) h = go (p x) (filter-below bound p a h.1)
  where
    go : (b : Bool) → AreBelow bound (filter p a) → AreBelow bound (cond b (x ∷ filter p a) (filter p a))
    go true ih = (h.0, ih)
    go false ih = ih

pub answers-states : (states : List State) (op : Op) (x y : Operand) → AreOfProgram states op x y → AreStates states (answer_of states op x y)
answers-states states TextClass x (index class) h = numbers_where-below (length states) _
answers-states states NumberClass x (index class) h = numbers_where-below (length states) _
answers-states states Pop (set_of set) (index label) h = numbers_where-below (length states) _
answers-states states Add (set_of a) (set_of b) h = add-below (length states) a b h.0 h.1
answers-states states Push (set_of needed) (index label) h = numbers_where-below (length states) _
answers-states states Mask (set_of a) (set_of b) h = filter-below (length states) _ a h.0
answers-states states TextClass x (set_of set) h = absurd h
answers-states states NumberClass x (set_of set) h = absurd h
answers-states states Pop (index n) y h = absurd h
answers-states states Pop (set_of set) (set_of other) h = absurd h
answers-states states Add (index n) y h = absurd h
answers-states states Add (set_of set) (index n) h = absurd h
answers-states states Push (index n) y h = absurd h
answers-states states Push (set_of set) (set_of other) h = absurd h
answers-states states Mask (index n) y h = absurd h
answers-states states Mask (set_of set) (index n) h = absurd h

-- the first states of a program are states of it
pub firsts-states : (states : List State) (firsts : List First) → ArePaths states firsts → AreStates states (first_set firsts)
firsts-states states [] h = tt
firsts-states states (f ∷ firsts) h =
    let path = h.0 in
    with_number-below (length states) f.state (first_set firsts) (state_at-below states f.state (state.Path path.0 path.1 path.2) path.3) (firsts-states states firsts h.1)
