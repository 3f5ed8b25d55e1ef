-- How the tables of Path states grow, and what is found in them.
use Rattle.std.proofs.Common.{◌≡◌, ℕ, zero, suc, ◌+◌, ◌<◌, ◌&&◌, ◌||◌, Bool, true, false, cond, List, [], ◌∷◌, ◌++◌, length, map, take, get_or, Option, Some, None, refl, sym, ◌∙◌, ap, arith, nat_eq, append-nil}
use Rattle.std.specs.Prelude.{slice_get, option_map, IfSome}
use Rattle.std.proofs.lemmas.Bool.{eqb-true}
use Rattle.px_xpath.specs.declared.filter.Test.TheVariants as test
use Rattle.px_afa.specs.declared.state.Body.{Body}
use Rattle.px_afa.specs.declared.state.State.{State}
use Rattle.px_afa.specs.declared.state.State.TheVariants as state
use Rattle.px_afa.specs.declared.path_tables.Met.{Met}
use Rattle.px_afa.specs.declared.path_tables.Met.TheVariants as met
use Rattle.px_afa.specs.declared.path_tables.PathTables.{PathTables}
use Rattle.px_afa.specs.Contents.{Kind, ElementKind, AttributeKind}
use Rattle.px_afa.specs.Truth.{state_at}
use Rattle.px_afa.specs.Building.{newest}
use Rattle.px_afa.specs.Sets.{numbers_where}
use Rattle.px_afa.specs.Labels.{names_of, label_number, kind_at, is_element_kind, is_element_label, is_attribute_label}
use Rattle.px_afa.specs.Lists.{row, is_key}
use Rattle.px_afa.specs.Tables.{body_guard, is_unguarded, tests_any_element, tests_any_attribute, unguarded_loosely, states_where}
use Rattle.px_afa.specs.PathKept.{met_of, known, met_at, ArePathTables}
use Rattle.px_afa.proofs.StatesByNumber.{newest-at, newest-length}
use Rattle.px_afa.proofs.Sizes.{label-few}
use Rattle.px_afa.proofs.ToldLabels.{kind_at-low}
use Rattle.px_afa.proofs.GuardTables.{body_guard-below, newest_get}
use Rattle.std.proofs.Math.Bool.{and-false}

pub get_map : {A B : Type 0} (f : A → B) (xs : List A) (n : ℕ) → slice_get (map f xs) n ≡ option_map f (slice_get xs n)
get_map f [] n = refl
get_map f (x ∷ xs) zero = refl
get_map f (x ∷ xs) (suc n) = get_map f xs n

-- a number more under its key
pub row_next : (states : List State) (n : ℕ) (x : State) (passes : ℕ → Option State → Bool) (old new : List (List ℕ)) (key : Option ℕ) → n < length states → x ≡ get_or states n x →
    ((k : ℕ) → row new k ≡ row old k ++ cond (is_key key k) (n ∷ []) []) → ((k : ℕ) → is_key key k ≡ passes k (Some x)) →
    ((k : ℕ) → row old k ≡ numbers_where n (λ m. passes k (state_at (newest states) m))) → (k : ℕ) → row new k ≡ numbers_where (n + 1) (λ m. passes k (state_at (newest states) m))
row_next states n x passes old new key less is put keyed before k =
    let e : n + 1 ≡ suc n = omega arith in
    let at = newest-at states n x less is in
    rw e (put k ∙ (ap (λ b. row old k ++ cond b (n ∷ []) []) (keyed k ∙ ap (passes k) (sym at)) ∙ ap (λ r. r ++ cond (passes k (state_at (newest states) n)) (n ∷ []) []) (before k)))

-- a number more in a list
pub list_next : (states : List State) (n : ℕ) (x : State) (passes : Option State → Bool) (old new : List ℕ) (wanted : Bool) → n < length states → x ≡ get_or states n x →
    new ≡ old ++ cond wanted (n ∷ []) [] → wanted ≡ passes (Some x) → old ≡ numbers_where n (λ m. passes (state_at (newest states) m)) → new ≡ numbers_where (n + 1) (λ m. passes (state_at (newest states) m))
list_next states n x passes old new wanted less is put told before =
    let e : n + 1 ≡ suc n = omega arith in
    let at = newest-at states n x less is in
    rw e (put ∙ (ap (λ b. old ++ cond b (n ∷ []) []) (told ∙ ap passes (sym at)) ∙ ap (λ r. r ++ cond (passes (state_at (newest states) n)) (n ∷ []) []) before))

pub rows_all : (states : List State) (n : ℕ) (passes : ℕ → Option State → Bool) (rows : List (List ℕ)) → n ≡ length states →
    ((k : ℕ) → row rows k ≡ numbers_where n (λ m. passes k (state_at (newest states) m))) → (k : ℕ) → row rows k ≡ states_where (newest states) (passes k)
rows_all states n passes rows all is k = is k ∙ ap (λ m. numbers_where m (λ j. passes k (state_at (newest states) j))) (all ∙ sym (newest-length states))

pub list_all-found : (states : List State) (n : ℕ) (passes : Option State → Bool) (list : List ℕ) → n ≡ length states →
    list ≡ numbers_where n (λ m. passes (state_at (newest states) m)) → list ≡ states_where (newest states) passes
list_all-found states n passes list all is = is ∙ ap (λ m. numbers_where m (λ j. passes (state_at (newest states) j))) (all ∙ sym (newest-length states))

-- what is kept for each state is what its test says
pub tests-told : (states : List State) (kinds : List Kind) (tests : List Met) → tests ≡ map (λ s. met_of kinds (Some s)) states → (n : ℕ) → met_at tests n ≡ met_of kinds (state_at (newest states) n)
tests-told states kinds tests is n =
    ap (λ ts. met_at ts n) is ∙ (ap known (get_map (λ s. met_of kinds (Some s)) states n) ∙ (go (slice_get states n) ∙ ap (met_of kinds) (sym (newest_get states n))))
  where
    go : (o : Option State) → known (option_map (λ s. met_of kinds (Some s)) o) ≡ met_of kinds o
    go None = refl
    go (Some s) = refl

abbrev pub label_of : Met → Option ℕ
label_of (met.Label label) = Some label
label_of met.AnyElement = None
label_of met.AnyAttribute = None
label_of met.Nothing = None

label-below : (kinds : List Kind) (s : Option State) (label : ℕ) → met.Label label ≡ met_of kinds s → label < 3 + length kinds
label-below kinds (Some (state.Path axis (test.Element name) b)) label e = let few = label-few kinds (ElementKind name) in let same : label ≡ label_number kinds (ElementKind name) = cc in omega arith
label-below kinds (Some (state.Path axis (test.Attribute name) b)) label e = let few = label-few kinds (AttributeKind name) in let same : label ≡ label_number kinds (AttributeKind name) = cc in omega arith
label-below kinds (Some (state.Path axis test.Text b)) label e = let same : label ≡ 0 = cc in omega arith
label-below kinds (Some (state.Path axis test.AnyElement b)) label e = cc
label-below kinds (Some (state.Path axis test.AnyAttribute b)) label e = cc
label-below kinds (Some (state.And parts)) label e = cc
label-below kinds (Some (state.Or parts)) label e = cc
label-below kinds (Some (state.Not part)) label e = cc
label-below kinds (Some (state.Value r wanted)) label e = cc
label-below kinds None label e = cc

pub label_within : (kinds : List Kind) (s : State) (m : Met) (label : ℕ) → m ≡ met.Label label → m ≡ met_of kinds (Some s) → label < 3 + length kinds
label_within kinds s m label same is = label-below kinds (Some s) label (sym same ∙ is)

-- a guard's key
pub guard_within : (states : List State) (body : Body) (key : Option ℕ) → key ≡ body_guard states body → IfSome key (λ g. g < length states)
guard_within states body None is = tt
guard_within states body (Some g) is = body_guard-below states body g (sym is)

-- a label is an element's or an attribute's, and not both
labels-apart : (kinds : List Kind) (label : ℕ) → is_element_label kinds label ≡ true → is_attribute_label kinds label ≡ false
labels-apart kinds label h = go (nat_eq label 1) refl h (kind_at 3 kinds label) refl
  where
    go : (b : Bool) → nat_eq label 1 ≡ b → (b || is_element_kind (kind_at 3 kinds label)) ≡ true → (k : Option Kind) → kind_at 3 kinds label ≡ k → is_attribute_label kinds label ≡ false
    go true e h' k at = let one : label ≡ 1 = eqb-true label 1 e in let none = kind_at-low 3 kinds 1 (omega arith) in rw (one, none) refl
    go false e h' (Some (ElementKind name)) at = by (nat_eq label 2) refl
      where
        by : (b : Bool) → nat_eq label 2 ≡ b → is_attribute_label kinds label ≡ false
        by false f = rw (f, at) refl
        by true f = let two : label ≡ 2 = eqb-true label 2 f in let none = kind_at-low 3 kinds 2 (omega arith) in let at' : kind_at 3 kinds 2 ≡ Some (ElementKind name) = rw two at at in cc
    go false e h' None at = let h'' : is_element_kind None ≡ true = rw at at h' in cc
    go false e h' (Some _) at = let h'' = rw at at h' in cc

where-same : (n : ℕ) (p q : ℕ → Bool) → ((m : ℕ) → p m ≡ q m) → numbers_where n p ≡ numbers_where n q
where-same zero p q e = refl
where-same (suc n) p q e = ap (λ r. r ++ cond (p n) (n ∷ []) []) (where-same n p q e) ∙ ap (λ b. numbers_where n q ++ cond b (n ∷ []) []) (e n)

pub where-none : (n : ℕ) (p : ℕ → Bool) → ((m : ℕ) → p m ≡ false) → numbers_where n p ≡ []
where-none zero p e = refl
where-none (suc n) p e = ap (λ b. numbers_where n p ++ cond b (n ∷ []) []) (e n) ∙ (append-nil (numbers_where n p) ∙ where-none n p e)

or_false : (b : Bool) → b ≡ (b || false)
or_false true = refl
or_false false = refl

pub loosely-elements : (tables : PathTables) (states : List State) (label : ℕ) → ArePathTables tables states → true ≡ is_element_label (names_of states) label → tables.any_elements.items ≡ unguarded_loosely states label
loosely-elements tables states label are is =
    are.any_elements ∙ where-same (length states) _ _ (λ m.
    ap (λ b. is_unguarded states (state_at states m) && b)
    (or_false (tests_any_element (state_at states m))
    ∙ (ap (λ b. tests_any_element (state_at states m) || (b && tests_any_attribute (state_at states m))) (sym (labels-apart (names_of states) label (sym is)))
    ∙ ap (λ b. (b && tests_any_element (state_at states m)) || (is_attribute_label (names_of states) label && tests_any_attribute (state_at states m))) is)))

pub loosely-none : (states : List State) (label : ℕ) → false ≡ is_element_label (names_of states) label → false ≡ is_attribute_label (names_of states) label → [] ≡ unguarded_loosely states label
loosely-none states label not_element not_attribute =
    sym (where-none (length states) _ (λ m.
    ap (λ b. is_unguarded states (state_at states m) && ((b && tests_any_element (state_at states m)) || (is_attribute_label (names_of states) label && tests_any_attribute (state_at states m)))) (sym not_element)
    ∙ (ap (λ b. is_unguarded states (state_at states m) && (b && tests_any_attribute (state_at states m))) (sym not_attribute) ∙ and-false (is_unguarded states (state_at states m)))))
