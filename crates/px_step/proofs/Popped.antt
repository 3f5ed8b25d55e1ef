-- A pop by what guards give, what no state guards, and what lasts.
use Rattle.std.proofs.Common.{◌≡◌, ℕ, zero, suc, ◌+◌, ◌<◌, ◌≤◌, Bool, true, false, ◌||◌, ◌&&◌, List, [], ◌∷◌, ◌++◌, length, take, get_or, filter, refl, sym, ◌∙◌, ap, arith, nat_eq, nat_lt, Option, Some, None, append_assoc, append-nil}
use Rattle.std.specs.List.{list_any}
use Rattle.std.proofs.lemmas.Bool.{lt-ltb, and_parts, or_left, or_right}
use Rattle.std.proofs.lemmas.List.Folds.{list_any-append}
use Rattle.px_xpath.specs.declared.filter.Axis.{Axis}
use Rattle.px_xpath.specs.declared.filter.Test.{Test}
use Rattle.px_xpath.specs.declared.filter.Test.TheVariants as test
use Rattle.px_text.specs.Sets.{has}
use Rattle.px_afa.specs.declared.state.Body.{Body}
use Rattle.px_afa.specs.declared.state.State.{State}
use Rattle.px_afa.specs.declared.state.State.TheVariants as state
use Rattle.px_afa.specs.Contents.{Kind}
use Rattle.px_afa.specs.Truth.{state_at, is_below}
use Rattle.px_afa.specs.Sets.{true_in, body_in, popped_state, popped}
use Rattle.px_afa.specs.Sound.{AreRising}
use Rattle.px_afa.specs.Functions.{pop}
use Rattle.px_afa.specs.Labels.{names_of, label_meets, is_element_label, label_at}
use Rattle.px_afa.specs.Tables.{is_met, body_guard, is_under, is_guarded_by, guarded_by, is_none, is_unguarded, is_exactly, tests_exactly, unguarded_exactly, tests_loosely, unguarded_loosely}
use Rattle.px_afa.proofs.Members.{has-filter, has-numbers_where}
use Rattle.px_afa.proofs.Found.{state_at-below}
use Rattle.px_step.specs.Popping.{has_body, is_given, is_lasting, lasts, all_guarded}
use Rattle.px_afa.proofs.Guards.{body-guard-in}
use Rattle.px_step.proofs.RisingNumbers.{IsSet, states-are}
use Rattle.px_step.proofs.Bools.{or_joined}

-- a state that a label meets is there
pub met_there : (states : List State) (label n : ℕ) → is_met (label_at states label) (state_at states n) ≡ true → n < length states
met_there states label n h = go (state_at states n) refl h
  where
    go : (o : Option State) → state_at states n ≡ o → is_met (label_at states label) o ≡ true → n < length states
    go None e h' = cc
    go (Some s) e h' = state_at-below states n s e

-- one guard more
pub guarded_more : (states : List State) (p : ℕ → Bool) (guards : List ℕ) (i : ℕ) → i < length guards →
    all_guarded states p (take (i + 1) guards) ≡ all_guarded states p (take i guards) ++ filter p (guarded_by states (get_or guards i 0))
guarded_more states p [] i h = absurd (omega arith)
guarded_more states p (g ∷ guards) zero h = append-nil (filter p (guarded_by states g))
guarded_more states p (g ∷ guards) (suc i) h =
    let e : suc i + 1 ≡ suc (i + 1) = omega arith in
    rw e
    (ap (λ z. filter p (guarded_by states g) ++ z) (guarded_more states p guards i (omega arith))
    ∙ sym (append_assoc (filter p (guarded_by states g)) (all_guarded states p (take i guards)) (filter p (guarded_by states (get_or guards i 0)))))

-- one turn of the loop over guards
pub guarded_added : (states : List State) (p : ℕ → Bool) (guards : List ℕ) (i : ℕ) (first old new found : List ℕ) → i < length guards →
    found ≡ guarded_by states (get_or guards i 0) → old ≡ first ++ all_guarded states p (take i guards) → new ≡ old ++ filter p found →
    new ≡ first ++ all_guarded states p (take (i + 1) guards)
guarded_added states p guards i first old new found less is so_far added =
    rw (added, so_far, is)
    (append_assoc first (all_guarded states p (take i guards)) (filter p (guarded_by states (get_or guards i 0)))
    ∙ ap (λ z. first ++ z) (sym (guarded_more states p guards i less)))

pub filter_none : (xs : List ℕ) (p : ℕ → Bool) → ((n : ℕ) → p n ≡ false) → filter p xs ≡ []
filter_none [] p h = refl
filter_none (x ∷ xs) p h = let e : p x ≡ false = h x in rw e (filter_none xs p h)

or_and : (a b c : Bool) → ((a && c) || (b && c)) ≡ ((a || b) && c)
or_and true b true = refl
or_and true true false = refl
or_and true false false = refl
or_and false b c = refl

has-guarded : (states : List State) (p : ℕ → Bool) (guards : List ℕ) (n : ℕ) →
    has (all_guarded states p guards) n ≡ (list_any (λ g. nat_lt n (length states) && is_guarded_by states g (state_at states n)) guards && p n)
has-guarded states p [] n = refl
has-guarded states p (g ∷ guards) n =
    list_any-append (λ m. nat_eq m n) (filter p (guarded_by states g)) (all_guarded states p guards)
    ∙ (ap (λ b. b || has (all_guarded states p guards) n)
    (has-filter p (guarded_by states g) n ∙ ap (λ b. b && p n) (has-numbers_where (length states) (λ m. is_guarded_by states g (state_at states m)) n))
    ∙ (ap (λ b. ((nat_lt n (length states) && is_guarded_by states g (state_at states n)) && p n) || b) (has-guarded states p guards n)
    ∙ or_and (nat_lt n (length states) && is_guarded_by states g (state_at states n)) (list_any (λ h. nat_lt n (length states) && is_guarded_by states h (state_at states n)) guards) (p n)))

-- a label that meets a test is its very name, or the test is for any name
exactly_or_loosely : (names : List Kind) (label : ℕ) (axis : Axis) (t : Test) (b : Body) → label_meets names label t ≡ true →
    (is_exactly names label t || tests_loosely names label (Some (state.Path axis t b))) ≡ true
exactly_or_loosely names label axis (test.Element name) b h = rw h refl
exactly_or_loosely names label axis test.AnyElement b h = rw h refl
exactly_or_loosely names label axis (test.Attribute name) b h = rw h refl
exactly_or_loosely names label axis test.AnyAttribute b h = go (is_element_label names label)
  where
    go : (e : Bool) → ((e && false) || (label_meets names label test.AnyAttribute && true)) ≡ true
    go true = rw h refl
    go false = rw h refl
exactly_or_loosely names label axis test.Text b h = rw h refl

-- the four lists that a pop gathers, joined
abbrev pub gathered : List State → (label : ℕ) → List ℕ → List ℕ
gathered states label set =
    ((all_guarded states (is_given states label (has set)) set
    ++ filter (is_given states label (has set)) (unguarded_exactly states label))
    ++ filter (is_given states label (has set)) (unguarded_loosely states label))
    ++ filter (lasts states label) set

-- what no guard covers is told by the label
covered : (states : List State) (set : List ℕ) (th : Bool) → th ≡ true → (o : Option ℕ) → ((g : ℕ) → o ≡ Some g → has set g ≡ true) → (exact loose : Bool) → (exact || loose) ≡ true →
    (list_any (λ g. th && is_under states g o) set || ((th && (is_none o && exact)) || (th && (is_none o && loose)))) ≡ true
covered states set true e None inside exact loose h = or_right (list_any (λ g. is_under states g None) set) (exact || loose) h
covered states set true e (Some g) inside exact loose h = or_left (has set g) (false || false) (inside g refl)
covered states set false e o inside exact loose h = cc

by_parts : (any a b p h el below th : Bool) → th ≡ true → (p ≡ true → (any || (a || b)) ≡ true) →
    ((((any && p) || (a && p)) || (b && p)) || (h && (el && below))) ≡ (th && (p || ((below && el) && h)))
by_parts true a b true h el below true e all = refl
by_parts false true b true h el below true e all = refl
by_parts false false true true h el below true e all = refl
by_parts false false false true h el below true e all = let no : false ≡ true = all refl in cc
by_parts any a b false h el below true e all = none any a b (h && (el && below)) ∙ turn h el below
  where
    none : (any a b x : Bool) → ((((any && false) || (a && false)) || (b && false)) || x) ≡ x
    none true true true x = refl
    none true true false x = refl
    none true false true x = refl
    none true false false x = refl
    none false true true x = refl
    none false true false x = refl
    none false false true x = refl
    none false false false x = refl

    turn : (h el below : Bool) → (h && (el && below)) ≡ ((below && el) && h)
    turn true true true = refl
    turn true true false = refl
    turn true false true = refl
    turn true false false = refl
    turn false true true = refl
    turn false true false = refl
    turn false false true = refl
    turn false false false = refl
by_parts any a b p h el below false e all = cc

-- what is no state does not last
pub past_lasting : (states : List State) (n : ℕ) → length states ≤ n → is_lasting (state_at states n) ≡ false
past_lasting states n h = go (state_at states n) refl
  where
    go : (o : Option State) → state_at states n ≡ o → is_lasting o ≡ false
    go None e = refl
    go (Some s) e = let l = state_at-below states n s e in absurd (omega arith)

-- nothing lasts to the parent of an attribute or a text
pub none_last : (states : List State) (label : ℕ) (xs set : List ℕ) → is_element_label (names_of states) label ≡ false → xs ≡ xs ++ filter (lasts states label) set
none_last states label xs set e =
    let none : filter (lasts states label) set ≡ [] = filter_none set (lasts states label) (λ n. ap (λ b. b && is_lasting (state_at states n)) e) in
    sym (append-nil xs) ∙ ap (λ z. xs ++ z) (sym none)

-- at one number
module _ (states : List State) (label : ℕ) (set : List ℕ) (n : ℕ) where
  abbrev names : List Kind
  names = names_of states

  abbrev there : Bool
  there = nat_lt n (length states)

  abbrev exact : Option State → Bool
  exact o = is_unguarded states o && tests_exactly names label o

  abbrev loose : Option State → Bool
  loose o = is_unguarded states o && tests_loosely names label o

  abbrev given : Option State → Bool
  given o = is_met (label_at states label) o && has_body states (has set) o

  abbrev four : Option State → Bool
  four o =
      (((list_any (λ g. there && is_guarded_by states g o) set && given o)
      || ((there && exact o) && given o))
      || ((there && loose o) && given o))
      || (has set n && (is_element_label names label && is_lasting o))

  abbrev p : ℕ → Bool
  p = is_given states label (has set)

  one : has (filter p (unguarded_exactly states label)) n ≡ ((there && exact (state_at states n)) && given (state_at states n))
  one =
      has-filter p (unguarded_exactly states label) n
      ∙ ap (λ b. b && p n) (has-numbers_where (length states) (λ m. exact (state_at states m)) n)

  two : has (filter p (unguarded_loosely states label)) n ≡ ((there && loose (state_at states n)) && given (state_at states n))
  two =
      has-filter p (unguarded_loosely states label) n
      ∙ ap (λ b. b && p n) (has-numbers_where (length states) (λ m. loose (state_at states m)) n)

  has-four : has (gathered states label set) n ≡ four (state_at states n)
  has-four =
      list_any-append (λ m. nat_eq m n) ((all_guarded states p set ++ filter p (unguarded_exactly states label)) ++ filter p (unguarded_loosely states label)) (filter (lasts states label) set)
      ∙ or_joined
      (list_any-append (λ m. nat_eq m n) (all_guarded states p set ++ filter p (unguarded_exactly states label)) (filter p (unguarded_loosely states label))
      ∙ or_joined
      (list_any-append (λ m. nat_eq m n) (all_guarded states p set) (filter p (unguarded_exactly states label))
      ∙ or_joined (has-guarded states p set n) one)
      two)
      (has-filter (lasts states label) set n)

  -- nothing but a Path is given
  nothing : (any th h e : Bool) → ((((any && false) || ((th && false) && false)) || ((th && false) && false)) || (h && (e && false))) ≡ (th && false)
  nothing true true true true = refl
  nothing true true true false = refl
  nothing true true false e = refl
  nothing true false true true = refl
  nothing true false true false = refl
  nothing true false false e = refl
  nothing false true true true = refl
  nothing false true true false = refl
  nothing false true false e = refl
  nothing false false true true = refl
  nothing false false true false = refl
  nothing false false false e = refl

  of_path : (axis : Axis) (t : Test) (b : Body) → there ≡ true → four (Some (state.Path axis t b)) ≡ (there && popped_state (Some (state.Path axis t b)) (label_at states label) (has set) n (true_in states (has set)))
  of_path axis t b th =
      by_parts _ _ _ (label_meets names label t && body_in (true_in states (has set)) b) (has set n) (is_element_label names label) (is_below axis) there th
      (λ h.
      let both = and_parts (label_meets names label t) (body_in (true_in states (has set)) b) h in
      covered states set there th (body_guard states b) (λ g e. body-guard-in states (has set) b g both.1 e) _ _ (exactly_or_loosely names label axis t b both.0))

  pub popped-at : four (state_at states n) ≡ (there && popped states (label_at states label) (has set) n)
  popped-at = go (state_at states n) refl
    where
      go : (o : Option State) → state_at states n ≡ o → four o ≡ (there && popped_state o (label_at states label) (has set) n (true_in states (has set)))
      go None e = nothing _ there (has set n) (is_element_label names label)
      go (Some (state.And ps)) e = nothing _ there (has set n) (is_element_label names label)
      go (Some (state.Or ps)) e = nothing _ there (has set n) (is_element_label names label)
      go (Some (state.Not m)) e = nothing _ there (has set n) (is_element_label names label)
      go (Some (state.Value r x)) e = nothing _ there (has set n) (is_element_label names label)
      go (Some (state.Path axis t b)) e = of_path axis t b (lt-ltb n (length states) (state_at-below states n (state.Path axis t b) e))

  pub has-gathered : has (gathered states label set) n ≡ (there && popped states (label_at states label) (has set) n)
  has-gathered = has-four ∙ popped-at

-- what was gathered has the members of the pop
pub pop-has : (states : List State) (label : ℕ) (set exact loose none one two three four : List ℕ) →
    exact ≡ unguarded_exactly states label → loose ≡ unguarded_loosely states label → none ≡ [] →
    one ≡ none ++ all_guarded states (is_given states label (has set)) set →
    two ≡ one ++ filter (is_given states label (has set)) exact →
    three ≡ two ++ filter (is_given states label (has set)) loose →
    four ≡ three ++ filter (lasts states label) set → (n : ℕ) → has four n ≡ has (pop states set label) n
pop-has states label set exact loose none one two three four ex lo e0 e1 e2 e3 e4 n =
    ap (λ z. has z n) all ∙ (has-gathered states label set n ∙ sym (has-numbers_where (length states) (popped states (label_at states label) (has set)) n))
  where
    all : four ≡ gathered states label set
    all = rw (e4, e3, e2, e1, e0, ex, lo) refl

pub pop-set : (states : List State) (label : ℕ) (set given xs : List ℕ) → length states ≤ 500000 → ((n : ℕ) → has given n ≡ has (pop states set label) n) → AreRising xs → ((n : ℕ) → has xs n ≡ has given n) →
    IsSet (pop states set label) xs
pop-set states label set given xs = states-are (length states) (popped states (label_at states label) (has set)) given xs
