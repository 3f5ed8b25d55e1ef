-- A push, state by state.
use Rattle.std.proofs.Common.{◌≡◌, ℕ, ◌+◌, ◌<◌, ◌≤◌, Bool, true, false, ◌||◌, ◌&&◌, List, [], ◌∷◌, ◌++◌, length, take, get_or, refl, sym, ◌∙◌, ap, subst, arith, nat_eq, Option, Some, None}
use Rattle.std.specs.Prelude.{slice_get}
use Rattle.std.specs.List.{list_any}
use Rattle.std.proofs.lemmas.Bool.{eqb-true, and_parts}
use Rattle.std.proofs.lemmas.List.{take_all}
use Rattle.std.proofs.lemmas.List.Folds.{list_any-append}
use Rattle.px_text.specs.Sets.{has}
use Rattle.px_afa.specs.declared.state.Body.{Body}
use Rattle.px_afa.specs.declared.state.Body.TheVariants as body
use Rattle.px_afa.specs.declared.state.State.{State}
use Rattle.px_afa.specs.declared.state.State.TheVariants as state
use Rattle.px_afa.specs.Truth.{state_at, is_below}
use Rattle.px_afa.specs.Sets.{needs, body_needs, pushed_state, pushed}
use Rattle.px_afa.specs.Building.{Automata}
use Rattle.px_afa.specs.Sound.{AreRising, IsSound}
use Rattle.px_afa.specs.Labels.{names_of, is_element_label, label_meets, label_at}
use Rattle.px_afa.specs.Tables.{is_met}
use Rattle.px_afa.specs.Functions.{push}
use Rattle.px_afa.proofs.Members.{has-numbers_where}
use Rattle.px_afa.proofs.Needed.{needs-below}
use Rattle.px_afa.proofs.Found.{state_at-below}
use Rattle.px_step.proofs.RisingNumbers.{IsSet, states-are}
use Rattle.px_step.proofs.Popped.{met_there}
use Rattle.px_step.specs.Popping.{is_lasting}
use Rattle.px_prune.specs.Needing.{path_need, path_needs, needs_of, is_met_need, is_lasting_need}
use Rattle.px_prune.proofs.KeptRows.{length-rows_below, rows_below-at}
use Rattle.px_prune.proofs.NeededParts.{below_size}

pub body_below : (states : List State) (b : Body) (k : ℕ) → body_needs (needs states) b k ≡ true → k < length states
body_below states body.Always k h = cc
body_below states (body.State n) k h = needs-below states n k h

-- the row of a state has what its body needs
has-path_need : (states : List State) (o : Option State) (k : ℕ) → has (path_need states o) k ≡ path_needs states o k
has-path_need states None k = refl
has-path_need states (Some (state.And ps)) k = refl
has-path_need states (Some (state.Or ps)) k = refl
has-path_need states (Some (state.Not m)) k = refl
has-path_need states (Some (state.Value r x)) k = refl
has-path_need states (Some (state.Path axis asked b)) k =
    has-numbers_where (length states) (body_needs (needs states) b) k ∙ sym (below_size (length states) k (body_needs (needs states) b k) (body_below states b k))

-- a state that the child meets has a row
pub met_row : (states : List State) (needs : List (List ℕ)) (label p : ℕ) → needs ≡ needs_of states → is_met (label_at states label) (state_at states p) ≡ true → p < length needs
met_row states needs label p e met =
    let there = met_there states label p met in
    rw e (omega (arith, length-rows_below (length states) (λ n. path_need states (state_at states n))))

-- the row that was added
pub met_added : (states : List State) (needs : List (List ℕ)) (label p : ℕ) (row old new : List ℕ) → needs ≡ needs_of states → is_met (label_at states label) (state_at states p) ≡ true →
    slice_get needs p ≡ Some row → new ≡ old ++ row → (k : ℕ) → has new k ≡ (has old k || is_met_need states label p k)
met_added states needs label p row old new e met at added k =
    ap (λ z. has z k) added
    ∙ (list_any-append (λ m. nat_eq m k) old row
    ∙ ap (λ z. has old k || z)
    (ap (λ z. has z k) is ∙ (has-path_need states (state_at states p) k ∙ ap (λ z. z && path_needs states (state_at states p) k) (sym met))))
  where
    is : row ≡ path_need states (state_at states p)
    is = let here = rows_below-at (length states) (λ n. path_need states (state_at states n)) p (met_there states label p met) in let same : slice_get (needs_of states) p ≡ Some row = rw (← e) at in cc

-- what a needed state gives to the child
one_pushed : (states : List State) (label p k : ℕ) → (is_met_need states label p k || is_lasting_need states label p k) ≡ pushed_state (state_at states p) (label_at states label) (needs states) p k
one_pushed states label p k = go (state_at states p)
  where
    nothing : (e q : Bool) → ((e && false) && q) ≡ false
    nothing true q = refl
    nothing false q = refl

    turn : (a e b q : Bool) → (a || ((e && b) && q)) ≡ (a || ((b && e) && q))
    turn a true true q = refl
    turn a true false q = refl
    turn a false true q = refl
    turn a false false q = refl

    go : (o : Option State) →
        ((is_met (label_at states label) o && path_needs states o k) || ((is_element_label (names_of states) label && is_lasting o) && nat_eq p k)) ≡ pushed_state o (label_at states label) (needs states) p k
    go None = nothing (is_element_label (names_of states) label) (nat_eq p k)
    go (Some (state.And ps)) = nothing (is_element_label (names_of states) label) (nat_eq p k)
    go (Some (state.Or ps)) = nothing (is_element_label (names_of states) label) (nat_eq p k)
    go (Some (state.Not m)) = nothing (is_element_label (names_of states) label) (nat_eq p k)
    go (Some (state.Value r x)) = nothing (is_element_label (names_of states) label) (nat_eq p k)
    go (Some (state.Path axis asked b)) = turn (label_meets (names_of states) label asked && body_needs (needs states) b k) (is_element_label (names_of states) label) (is_below axis) (nat_eq p k)

pushed_below : (states : List State) (label p k : ℕ) → pushed_state (state_at states p) (label_at states label) (needs states) p k ≡ true → k < length states
pushed_below states label p k h = go (state_at states p) refl h
  where
    split : (a b : Bool) (P : Type 0) → (a || b) ≡ true → (a ≡ true → P) → (b ≡ true → P) → P
    split true b P e f g = f refl
    split false b P e f g = g e

    go : (o : Option State) → state_at states p ≡ o → pushed_state o (label_at states label) (needs states) p k ≡ true → k < length states
    go None e h' = cc
    go (Some (state.And ps)) e h' = cc
    go (Some (state.Or ps)) e h' = cc
    go (Some (state.Not m)) e h' = cc
    go (Some (state.Value r x)) e h' = cc
    go (Some (state.Path axis asked b)) e h' =
        split (label_meets (names_of states) label asked && body_needs (needs states) b k) ((is_below axis && is_element_label (names_of states) label) && nat_eq p k) (k < length states) h'
        (λ met. body_below states b k (and_parts (label_meets (names_of states) label asked) (body_needs (needs states) b k) met).1)
        (λ lasts.
        let same : p ≡ k = eqb-true p k (and_parts (is_below axis && is_element_label (names_of states) label) (nat_eq p k) lasts).1 in
        let there = state_at-below states p (state.Path axis asked b) e in
        omega arith)

any_below : (f : ℕ → Bool) (P : Type 0) (xs : List ℕ) → ((p : ℕ) → f p ≡ true → P) → list_any f xs ≡ true → P
any_below f P [] each h = absurd (no h)
  where
    no : false ≡ true → ⊥
    no e = cc
any_below f P (x ∷ xs) each h = go (f x) refl h (any_below f P xs each)
  where
    go : (b : Bool) → f x ≡ b → (b || list_any f xs) ≡ true → (list_any f xs ≡ true → P) → P
    go true e h' ih = each x e
    go false e h' ih = ih h'

any_equal : (f g : ℕ → Bool) (xs : List ℕ) → ((p : ℕ) → f p ≡ g p) → list_any f xs ≡ list_any g xs
any_equal f g [] h = refl
any_equal f g (x ∷ xs) h = ap (λ z. z || list_any f xs) (h x) ∙ ap (λ z. g x || z) (any_equal f g xs h)

-- the states that were gathered are those of the push
pub push-has : (states : List State) (label : ℕ) (need items given : List ℕ) (i k : ℕ) → items ≡ need → length items ≤ i →
    has given k ≡ list_any (λ p. is_met_need states label p k || is_lasting_need states label p k) (take i items) → has given k ≡ has (push states need label) k
push-has states label need items given i k same all so_far =
    so_far
    ∙ (ap (list_any (λ p. is_met_need states label p k || is_lasting_need states label p k)) (take_all i items all ∙ same)
    ∙ (any_equal (λ p. is_met_need states label p k || is_lasting_need states label p k) (λ p. pushed_state (state_at states p) (label_at states label) (needs states) p k) need (λ p. one_pushed states label p k)
    ∙ (below_size (length states) k (pushed states (label_at states label) need k) (any_below (λ p. pushed_state (state_at states p) (label_at states label) (needs states) p k) (k < length states) need (λ p. pushed_below states label p k))
    ∙ sym (has-numbers_where (length states) (pushed states (label_at states label) need) k))))

-- a program that is the compiled one is as small
pub few : (program compiled : Automata) → program ≡ compiled → IsSound program → length compiled.states ≤ 500000
few program compiled same sound = subst (λ (a : Automata). length a.states ≤ 500000) same sound.few

pub push-set : (states : List State) (label : ℕ) (need given xs : List ℕ) → length states ≤ 500000 → ((k : ℕ) → has given k ≡ has (push states need label) k) → AreRising xs → ((k : ℕ) → has xs k ≡ has given k) →
    IsSet (push states need label) xs
push-set states label need given xs = states-are (length states) (pushed states (label_at states label) need) given xs
