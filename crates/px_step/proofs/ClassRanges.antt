-- The entries of a relation by their classes, and the Value states that they name.
use Rattle.std.proofs.Common.{◌≡◌, ℕ, zero, suc, ◌+◌, ◌<◌, ◌≤◌, ◌⊎◌, inl, inr, Bool, true, false, not, ◌||◌, ◌&&◌, cond, List, [], ◌∷◌, ◌++◌, length, take, drop, get_or, filter, map, refl, sym, ◌∙◌, ap, arith, nat_eq, nat_lt, eqb, Some}
use Rattle.std.specs.Prelude.{slice_get}
use Rattle.std.specs.List.{list_any}
use Rattle.std.specs.List.Sorted.{IsNonDecreasingBy}
use Rattle.std.specs.Ordering.{nat_cmp}
use Rattle.std.specs.declared.cmp.Ordering.TheVariants.{Less, Equal, Greater}
use Rattle.std.proofs.lemmas.Bool.{eqb-true, eqb-false, ltb-true, ltb-false, lt-ltb, le-ltb, eq-eqb, ne_eqb}
use Rattle.std.proofs.lemmas.List.Folds.{list_any-append}
use Rattle.px_xpath.specs.declared.filter.Relation.{Relation}
use Rattle.px_xpath.specs.declared.filter.Relation.TheVariants as relation
use Rattle.px_xpath.specs.Meaning.{allows}
use Rattle.px_text.specs.Sets.{has}
use Rattle.px_afa.specs.declared.state.State.{State}
use Rattle.px_afa.specs.declared.state.Related.{Related}
use Rattle.px_afa.specs.Truth.{state_at}
use Rattle.px_afa.specs.Classes.{class_compares}
use Rattle.px_afa.specs.Tables.{own_class, relates_number, AreRelated}
use Rattle.px_afa.proofs.Members.{or_assoc}
use Rattle.px_step.specs.Valuing.{is_told}
use Rattle.px_step.proofs.Bools.{or_joined}
use Rattle.std.proofs.Math.Bool.{or-false}
use Rattle.std.specs.Cmp.{both_ways}

abbrev class_of : Related → ℕ
class_of e = e.class

abbrev state_of : Related → ℕ
state_of e = e.state

-- what is before a place passes and what is behind it does not
pub front_passes : {X : Type 0} (p : X → Bool) (xs : List X) (i : ℕ) → i ≤ length xs →
    ((k : ℕ) (d : X) → k < i → p (get_or xs k d) ≡ true) → ((k : ℕ) (d : X) → i ≤ k → k < length xs → p (get_or xs k d) ≡ false) → take i xs ≡ filter p xs
front_passes p [] zero le passes fails = refl
front_passes p [] (suc i) le passes fails = refl
front_passes p (x ∷ xs) zero le passes fails =
    let e : p x ≡ false = fails 0 x (omega arith) (omega arith) in
    rw e (front_passes p xs zero (omega arith) (λ k d h. absurd (omega arith)) (λ k d low h. fails (suc k) d (omega arith) (omega arith)))
front_passes p (x ∷ xs) (suc i) le passes fails =
    let e : p x ≡ true = passes 0 x (omega arith) in
    rw e (ap (λ z. x ∷ z) (front_passes p xs i (omega arith) (λ k d h. passes (suc k) d (omega arith)) (λ k d low h. fails (suc k) d (omega arith) (omega arith))))

pub back_fails : {X : Type 0} (p : X → Bool) (xs : List X) (i : ℕ) → i ≤ length xs →
    ((k : ℕ) (d : X) → k < i → p (get_or xs k d) ≡ true) → ((k : ℕ) (d : X) → i ≤ k → k < length xs → p (get_or xs k d) ≡ false) → drop i xs ≡ filter (λ x. not (p x)) xs
back_fails p [] zero le passes fails = refl
back_fails p [] (suc i) le passes fails = refl
back_fails p (x ∷ xs) zero le passes fails =
    let e : p x ≡ false = fails 0 x (omega arith) (omega arith) in
    rw e (ap (λ z. x ∷ z) (back_fails p xs zero (omega arith) (λ k d h. absurd (omega arith)) (λ k d low h. fails (suc k) d (omega arith) (omega arith))))
back_fails p (x ∷ xs) (suc i) le passes fails =
    let e : p x ≡ true = passes 0 x (omega arith) in
    rw e (back_fails p xs i (omega arith) (λ k d h. passes (suc k) d (omega arith)) (λ k d low h. fails (suc k) d (omega arith) (omega arith)))

-- entries in the order of their table have rising classes
get_some : {X : Type 0} (xs : List X) (i : ℕ) (d : X) → i < length xs → slice_get xs i ≡ Some (get_or xs i d)
get_some [] i d h = absurd (omega arith)
get_some (x ∷ xs) zero d h = refl
get_some (x ∷ xs) (suc i) d h = get_some xs i d (omega arith)

pub classes-rise : (states : List State) (r : Relation) (entries : List Related) → AreRelated states r entries → IsNonDecreasingBy class_of entries
classes-rise states r entries related i j d le h = go (eqb i j) refl
  where
    by : (e f : Related) → (e.class < f.class) ⊎ ((e.class ≡ f.class) × (e.state < f.state)) → e.class ≤ f.class
    by e f (inl l) = omega arith
    by e f (inr both) = let same : e.class ≡ f.class = both.0 in omega arith

    go : (b : Bool) → eqb i j ≡ b → class_of (get_or entries i d) ≤ class_of (get_or entries j d)
    go true e = let same : i ≡ j = eqb-true i j e in rw same (omega arith)
    go false e =
        let differ = eqb-false i j e in
        by (get_or entries i d) (get_or entries j d) (related.rising i j (get_or entries i d) (get_or entries j d) (omega arith) (get_some entries i d (omega arith)) (get_some entries j d h))

-- some member of a list that passes two tests
any_filter : {X : Type 0} (f p : X → Bool) (xs : List X) → list_any f (filter p xs) ≡ list_any (λ x. p x && f x) xs
any_filter f p [] = refl
any_filter f p (x ∷ xs) = go (p x) (any_filter f p xs)
  where
    go : (b : Bool) → list_any f (filter p xs) ≡ list_any (λ y. p y && f y) xs → list_any f (cond b (x ∷ filter p xs) (filter p xs)) ≡ ((b && f x) || list_any (λ y. p y && f y) xs)
    go true ih = ap (λ z. f x || z) ih
    go false ih = ih

any_or : {X : Type 0} (f g : X → Bool) (xs : List X) → (list_any f xs || list_any g xs) ≡ list_any (λ x. f x || g x) xs
any_or f g [] = refl
any_or f g (x ∷ xs) = turn (f x) (g x) (list_any f xs) (list_any g xs) ∙ ap (λ z. (f x || g x) || z) (any_or f g xs)
  where
    turn : (a b c d : Bool) → ((a || c) || (b || d)) ≡ ((a || b) || (c || d))
    turn true b c d = refl
    turn false true true d = refl
    turn false true false d = refl
    turn false false c d = refl

any_same : {X : Type 0} (f g : X → Bool) (xs : List X) → ((i : ℕ) (x : X) → slice_get xs i ≡ Some x → f x ≡ g x) → list_any f xs ≡ list_any g xs
any_same f g [] h = refl
any_same f g (x ∷ xs) h = ap (λ z. z || list_any f xs) (h 0 x refl) ∙ ap (λ z. g x || z) (any_same f g xs (λ i y e. h (suc i) y e))

any_and : {X : Type 0} (f : X → Bool) (b : Bool) (xs : List X) → list_any (λ x. f x && b) xs ≡ (list_any f xs && b)
any_and f b [] = refl
any_and f b (x ∷ xs) = ap (λ z. (f x && b) || z) (any_and f b xs) ∙ turn (f x) (list_any f xs) b
  where
    turn : (a c b : Bool) → ((a && b) || (c && b)) ≡ ((a || c) && b)
    turn true true true = refl
    turn true true false = refl
    turn true false true = refl
    turn true false false = refl
    turn false c b = refl

pub data Found {X : Type 0} (f : X → Bool) (xs : List X) : Type 0 where
  found : (i : ℕ) (x : X) → slice_get xs i ≡ Some x → f x ≡ true → Found f xs

any_found : {X : Type 0} (f : X → Bool) (xs : List X) → list_any f xs ≡ true → Found f xs
any_found f [] h = cc
any_found f (x ∷ xs) h = go (f x) refl h (any_found f xs)
  where
    go : (b : Bool) → f x ≡ b → (b || list_any f xs) ≡ true → (list_any f xs ≡ true → Found f xs) → Found f (x ∷ xs)
    go true e h' ih = found 0 x refl e
    go false e h' ih = later (ih h')
      where
        later : Found f xs → Found f (x ∷ xs)
        later (found i y at passes) = found (suc i) y at passes

-- the states of some entries, if they are wanted
any_if : (wanted : Bool) (entries : List Related) (n : ℕ) → has (cond wanted (map state_of entries) []) n ≡ list_any (λ (e : Related). wanted && nat_eq e.state n) entries
any_if true [] n = refl
any_if true (e ∷ entries) n = ap (λ z. nat_eq e.state n || z) (any_if true entries n)
any_if false entries n = none entries
  where
    none : (es : List Related) → false ≡ list_any (λ (e : Related). false && nat_eq e.state n) es
    none [] = refl
    none (e ∷ es) = none es

-- three parts of the entries, by two tests
three : (low same high : Bool) (p q : Related → Bool) (entries : List Related) (n : ℕ) →
    (has (cond low (map state_of (filter p entries)) []) n
    || (has (cond same (map state_of (filter q (filter (λ e. not (p e)) entries))) []) n
    || has (cond high (map state_of (filter (λ e. not (q e)) (filter (λ e. not (p e)) entries))) []) n))
    ≡ list_any (λ (e : Related). nat_eq e.state n && cond (p e) low (cond (q e) same high)) entries
three low same high p q entries n =
    or_joined first (or_joined second third ∙ any_or (λ e. not (p e) && (q e && (same && at e))) (λ e. not (p e) && (not (q e) && (high && at e))) entries)
    ∙ (any_or (λ e. p e && (low && at e)) (λ e. (not (p e) && (q e && (same && at e))) || (not (p e) && (not (q e) && (high && at e)))) entries
    ∙ any_same _ (λ e. at e && cond (p e) low (cond (q e) same high)) entries (λ i e h. told (p e) (q e) (at e)))
  where
    at : Related → Bool
    at e = nat_eq e.state n

    first : has (cond low (map state_of (filter p entries)) []) n ≡ list_any (λ e. p e && (low && at e)) entries
    first = any_if low (filter p entries) n ∙ any_filter (λ e. low && at e) p entries

    second : has (cond same (map state_of (filter q (filter (λ e. not (p e)) entries))) []) n ≡ list_any (λ e. not (p e) && (q e && (same && at e))) entries
    second =
        any_if same (filter q (filter (λ e. not (p e)) entries)) n
        ∙ (any_filter (λ e. same && at e) q (filter (λ e. not (p e)) entries)
        ∙ any_filter (λ e. q e && (same && at e)) (λ e. not (p e)) entries)

    third : has (cond high (map state_of (filter (λ e. not (q e)) (filter (λ e. not (p e)) entries))) []) n ≡ list_any (λ e. not (p e) && (not (q e) && (high && at e))) entries
    third =
        any_if high (filter (λ e. not (q e)) (filter (λ e. not (p e)) entries)) n
        ∙ (any_filter (λ e. high && at e) (λ e. not (q e)) (filter (λ e. not (p e)) entries)
        ∙ any_filter (λ e. not (q e) && (high && at e)) (λ e. not (p e)) entries)

    turn : (w x : Bool) → (w && x) ≡ (x && w)
    turn true true = refl
    turn true false = refl
    turn false true = refl
    turn false false = refl

    told : (a b x : Bool) → ((a && (low && x)) || ((not a && (b && (same && x))) || (not a && (not b && (high && x))))) ≡ (x && cond a low (cond b same high))
    told true b x = or-false (low && x) ∙ turn low x
    told false true x = or-false (same && x) ∙ turn same x
    told false false x = turn high x

-- which part a class is in tells how it compares
class_told : (r : Relation) (class at : ℕ) → cond (nat_lt at class) (is_told r class Greater) (cond (nat_lt at (class + 1)) (is_told r class Equal) (is_told r class Less)) ≡ class_compares r class at
class_told r zero at = none r (nat_lt at 0) (nat_lt at (0 + 1))
  where
    none : (r : Relation) (a b : Bool) → cond a (is_told r zero Greater) (cond b (is_told r zero Equal) (is_told r zero Less)) ≡ class_compares r zero at
    none relation.Equal true b = refl
    none relation.Equal false true = refl
    none relation.Equal false false = refl
    none relation.NotEqual true b = refl
    none relation.NotEqual false true = refl
    none relation.NotEqual false false = refl
    none relation.Less true b = refl
    none relation.Less false true = refl
    none relation.Less false false = refl
    none relation.AtMost true b = refl
    none relation.AtMost false true = refl
    none relation.AtMost false false = refl
    none relation.Greater true b = refl
    none relation.Greater false true = refl
    none relation.Greater false false = refl
    none relation.AtLeast true b = refl
    none relation.AtLeast false true = refl
    none relation.AtLeast false false = refl
class_told r (suc class) at = go (nat_lt at (suc class)) (nat_lt at (suc class + 1)) refl refl
  where
    lower : at < suc class → nat_cmp (suc class) at ≡ Greater
    lower h = let l : nat_lt (suc class) at ≡ false = le-ltb (suc class) at (omega arith) in let e : nat_eq (suc class) at ≡ false = ne_eqb (suc class) at (λ same. omega arith) in rw (l, e) refl

    same : suc class ≡ at → nat_cmp (suc class) at ≡ Equal
    same h = let l : nat_lt (suc class) at ≡ false = le-ltb (suc class) at (omega arith) in let e : nat_eq (suc class) at ≡ true = eq-eqb (suc class) at h in rw (l, e) refl

    higher : suc class < at → nat_cmp (suc class) at ≡ Less
    higher h = let l : nat_lt (suc class) at ≡ true = lt-ltb (suc class) at h in rw l refl

    go : (a b : Bool) → nat_lt at (suc class) ≡ a → nat_lt at (suc class + 1) ≡ b → cond a (allows r Greater) (cond b (allows r Equal) (allows r Less)) ≡ allows r (nat_cmp (suc class) at)
    go true b e f = ap (allows r) (sym (lower (ltb-true at (suc class) e)))
    go false true e f =
        let low : suc class ≤ at = ltb-false at (suc class) e in
        let up : at < suc class + 1 = ltb-true at (suc class + 1) f in
        ap (allows r) (sym (same (omega arith)))
    go false false e f = let low : suc class + 1 ≤ at = ltb-false at (suc class + 1) f in ap (allows r) (sym (higher (omega arith)))

-- the entries of a relation tell which states have it
related-at : (states : List State) (r : Relation) (entries : List Related) → AreRelated states r entries → (class n : ℕ) →
    list_any (λ (e : Related). nat_eq e.state n && class_compares r class e.class) entries ≡ (relates_number r (state_at states n) && class_compares r class (own_class states (state_at states n)))
related-at states r entries related class n =
    any_same (λ (e : Related). nat_eq e.state n && class_compares r class e.class) (λ (e : Related). nat_eq e.state n && class_compares r class (own_class states (state_at states n))) entries at_entry
    ∙ (any_and (λ (e : Related). nat_eq e.state n) (class_compares r class (own_class states (state_at states n))) entries
    ∙ ap (λ b. b && class_compares r class (own_class states (state_at states n)))
    (both_ways (list_any (λ (e : Related). nat_eq e.state n) entries) (relates_number r (state_at states n)) (λ h. by_entry (any_found (λ (e : Related). nat_eq e.state n) entries h)) (related.all n)))
  where
    at_entry : (i : ℕ) (e : Related) → slice_get entries i ≡ Some e → (nat_eq e.state n && class_compares r class e.class) ≡ (nat_eq e.state n && class_compares r class (own_class states (state_at states n)))
    at_entry i e h = go (nat_eq e.state n) refl
      where
        go : (b : Bool) → nat_eq e.state n ≡ b → (b && class_compares r class e.class) ≡ (b && class_compares r class (own_class states (state_at states n)))
        go true f =
            let here : e.state ≡ n = eqb-true e.state n f in
            ap (class_compares r class) ((related.each i e h).1 ∙ ap (λ m. own_class states (state_at states m)) here)
        go false f = refl

    by_entry : Found (λ (e : Related). nat_eq e.state n) entries → relates_number r (state_at states n) ≡ true
    by_entry (found i e h f) = let here : e.state ≡ n = eqb-true e.state n f in ap (λ m. relates_number r (state_at states m)) (sym here) ∙ (related.each i e h).0

-- the states of a relation that are true of a class, behind the states so far
pub true-added : (states : List State) (r : Relation) (class bound more i j : ℕ) (entries lower rest same higher : List Related) (old one two new : List ℕ) (low equal high : Bool) →
    AreRelated states r entries → bound ≡ class → more ≡ class + 1 →
    lower ≡ take i entries → rest ≡ drop i entries →
    take i entries ≡ filter (λ (e : Related). nat_lt e.class bound) entries → drop i entries ≡ filter (λ (e : Related). not (nat_lt e.class bound)) entries →
    same ≡ take j rest → higher ≡ drop j rest →
    take j rest ≡ filter (λ (e : Related). nat_lt e.class more) rest → drop j rest ≡ filter (λ (e : Related). not (nat_lt e.class more)) rest →
    low ≡ is_told r class Greater → equal ≡ is_told r class Equal → high ≡ is_told r class Less →
    one ≡ old ++ cond low (map state_of lower) [] → two ≡ one ++ cond equal (map state_of same) [] → new ≡ two ++ cond high (map state_of higher) [] →
    (n : ℕ) → has new n ≡ (has old n || (relates_number r (state_at states n) && class_compares r class (own_class states (state_at states n))))
true-added states r class bound more i j entries lower rest same higher old one two new low equal high related eb em el er ft fd es eh gt gd wl we wh a1 a2 a3 n =
    ap (λ z. has z n) all
    ∙ (list_any-append (λ m. nat_eq m n) ((old ++ A) ++ B) C
    ∙ (ap (λ z. z || has C n) (list_any-append (λ m. nat_eq m n) (old ++ A) B ∙ ap (λ z. z || has B n) (list_any-append (λ m. nat_eq m n) old A))
    ∙ (or_assoc (has old n || has A n) (has B n) (has C n)
    ∙ (or_assoc (has old n) (has A n) (has B n || has C n)
    ∙ ap (λ z. has old n || z)
    (three (is_told r class Greater) (is_told r class Equal) (is_told r class Less) p q entries n
    ∙ (any_same (λ (e : Related). nat_eq e.state n && cond (p e) (is_told r class Greater) (cond (q e) (is_told r class Equal) (is_told r class Less))) (λ (e : Related). nat_eq e.state n && class_compares r class e.class) entries
    (λ k e h. ap (λ z. nat_eq e.state n && z) (class_told r class e.class))
    ∙ related-at states r entries related class n))))))
  where
    p : Related → Bool
    p e = nat_lt e.class class

    q : Related → Bool
    q e = nat_lt e.class (class + 1)

    A : List ℕ
    A = cond (is_told r class Greater) (map state_of (filter p entries)) []

    B : List ℕ
    B = cond (is_told r class Equal) (map state_of (filter q (filter (λ e. not (p e)) entries))) []

    C : List ℕ
    C = cond (is_told r class Less) (map state_of (filter (λ e. not (q e)) (filter (λ e. not (p e)) entries))) []

    is_lower : lower ≡ filter p entries
    is_lower = el ∙ (ft ∙ ap (λ z. filter (λ (e : Related). nat_lt e.class z) entries) eb)

    is_rest : rest ≡ filter (λ e. not (p e)) entries
    is_rest = er ∙ (fd ∙ ap (λ z. filter (λ (e : Related). not (nat_lt e.class z)) entries) eb)

    is_same : same ≡ filter q (filter (λ e. not (p e)) entries)
    is_same = es ∙ (gt ∙ (ap (λ z. filter (λ (e : Related). nat_lt e.class z) rest) em ∙ ap (filter q) is_rest))

    is_higher : higher ≡ filter (λ e. not (q e)) (filter (λ e. not (p e)) entries)
    is_higher = eh ∙ (gd ∙ (ap (λ z. filter (λ (e : Related). not (nat_lt e.class z)) rest) em ∙ ap (filter (λ e. not (q e))) is_rest))

    all : new ≡ ((old ++ A) ++ B) ++ C
    all = rw (a3, a2, a1, wl, we, wh, is_lower, is_same, is_higher) refl
