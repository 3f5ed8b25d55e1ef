-- Two rising lists of ids with the same members are one, and what two live lists say of each other's matches.
use Rattle.std.proofs.Common.{◌≡◌, ◌≢◌, ◌<◌, ◌≤◌, ℕ, arith, Bool, true, false, ◌&&◌, not, List, [], ◌∷◌, nat_eq, nat_lt, cond, refl, ap, ◌∙◌, sym, subst, eq-eqb, Option, Some, None, ◌⊎◌, inl, inr}
use Rattle.std.proofs.lemmas.Bool.Decides.{eqb_tells}
use Rattle.std.proofs.lemmas.Bool.{ne_eqb, ltb-true, ltb-false}
use Rattle.std.specs.Prelude.{◌||◌, map, filter}
use Rattle.std.specs.List as lists
use Rattle.std.specs.List.{list_any}
use Rattle.px_text.specs.Sets.{Above, Rising}
use Rattle.px_xpath.specs.Filters.{Way}
use Rattle.px_xpath.specs.Histories.{Subscription, is_of}
use Rattle.px_delta.specs.Lists.{TellsSame, is_pair, without, matching, has_id, without_ids, insert_id, merge}

-- the number is below each id, and the ids rise
abbrev pub IsBelow : ℕ → List Subscription → Type 0
IsBelow n [] = Unit {0}
IsBelow n (x ∷ xs) = (n < x.id) × IsBelow n xs

abbrev pub IsRising : List Subscription → Type 0
IsRising [] = Unit {0}
IsRising (x ∷ xs) = IsBelow x.id xs × IsRising xs

below_less : (m n : ℕ) (xs : List Subscription) → m < n → IsBelow n xs → IsBelow m xs
below_less m n [] h o = tt
below_less m n (x ∷ xs) h o = let k = o.0 in (omega arith, below_less m n xs h o.1)

below_all : (n : ℕ) (xs : List Subscription) → Above n (map (λ s. s.id) xs) → IsRising xs → IsBelow n xs
below_all n [] a r = tt
below_all n (x ∷ xs) a r = (a, below_less n x.id xs a r.0)

is_rising : (xs : List Subscription) → Rising (map (λ s. s.id) xs) → IsRising xs
is_rising [] r = tt
is_rising (x ∷ xs) r = let rest = is_rising xs r.2 in (below_all x.id xs r.1 rest, rest)

-- filters are the same or differ
way_tells : (same : Way → Way → Bool) → TellsSame same → (a b : Way) → ((same a b ≡ true) × (a ≡ b)) ⊎ ((same a b ≡ false) × (a ≢ b))
way_tells same tells a b = by_test (same a b) refl
  where
    by_test : (t : Bool) → same a b ≡ t → ((same a b ≡ true) × (a ≡ b)) ⊎ ((same a b ≡ false) × (a ≢ b))
    by_test true e = inl (e, (tells a b).0 e)
    by_test false e = inr (e, λ f. differ (sym e ∙ (tells a b).1 f))
      where
        differ : false ≡ true → ⊥
        differ e = cc

same_true : (same : Way → Way → Bool) → TellsSame same → (a b : Way) → a ≡ b → same a b ≡ true
same_true same tells a b e = (tells a b).1 e

same_false : (same : Way → Way → Bool) → TellsSame same → (a b : Way) → (a ≡ b → ⊥) → same a b ≡ false
same_false same tells a b h = by_case (way_tells same tells a b)
  where
    by_case : ((same a b ≡ true) × (a ≡ b)) ⊎ ((same a b ≡ false) × (a ≢ b)) → same a b ≡ false
    by_case (inl t) = absurd (h t.1)
    by_case (inr t) = t.0

-- ids by themselves
abbrev pub IsOver : ℕ → List ℕ → Type 0
IsOver n [] = Unit {0}
IsOver n (x ∷ xs) = (n < x) × IsOver n xs

abbrev pub AreRising : List ℕ → Type 0
AreRising [] = Unit {0}
AreRising (x ∷ xs) = IsOver x xs × AreRising xs

abbrev pub has : List ℕ → ℕ → Bool
has [] q = false
has (x ∷ xs) q = nat_eq x q || has xs q

pub over_less : (m n : ℕ) (xs : List ℕ) → m < n → IsOver n xs → IsOver m xs
over_less m n [] h o = tt
over_less m n (x ∷ xs) h o = let k = o.0 in (omega arith, over_less m n xs h o.1)

has_not : (n q : ℕ) (xs : List ℕ) → IsOver n xs → q ≡ n ⊎ (q < n) → has xs q ≡ false
has_not n q [] o h = refl
has_not n q (x ∷ xs) o (inl h) = let k = o.0 in rw (ne_eqb x q (apart x q n k h), has_not n q xs o.1 (inl h)) refl
  where
    apart : (x q n : ℕ) → n < x → q ≡ n → x ≡ q → ⊥
    apart x q n k h e = omega arith
has_not n q (x ∷ xs) o (inr h) = let k = o.0 in rw (ne_eqb x q (apart x q n k h), has_not n q xs o.1 (inr h)) refl
  where
    apart : (x q n : ℕ) → n < x → q < n → x ≡ q → ⊥
    apart x q n k h e = omega arith

self : (n : ℕ) (xs : List ℕ) → has (n ∷ xs) n ≡ true
self n xs = rw (eq-eqb n n refl) refl

stripped : (a b c d : Bool) → a ≡ false → b ≡ false → (a || c) ≡ (b || d) → c ≡ d
stripped a b c d ha hb h = rw (ha, hb) at h

tails : (x y : ℕ) (xs ys : List ℕ) → IsOver x xs → IsOver y ys → x ≡ y → ((q : ℕ) → has (x ∷ xs) q ≡ has (y ∷ ys) q) → (q : ℕ) → has xs q ≡ has ys q
tails x y xs ys r s e h q = tail_at (eqb_tells x q)
  where
    tail_at : ((nat_eq x q ≡ true) × (x ≡ q)) ⊎ ((nat_eq x q ≡ false) × (x ≢ q)) → has xs q ≡ has ys q
    tail_at (inl t) = has_not x q xs r (inl (sym t.1)) ∙ sym (has_not y q ys s (inl (sym t.1 ∙ e)))
    tail_at (inr t) = stripped (nat_eq x q) (nat_eq y q) (has xs q) (has ys q) t.0 (ap (λ (z : ℕ). nat_eq z q) (sym e) ∙ t.0) (h q)

-- of two rising lists with the same members neither begins later
not_later : (x y : ℕ) (xs ys : List ℕ) → IsOver x xs → IsOver y ys → ((q : ℕ) → has (x ∷ xs) q ≡ has (y ∷ ys) q) → x < y → ⊥
not_later x y xs ys r s h l =
    let gone : has (y ∷ ys) x ≡ false = rw (ne_eqb y x (apart x y l), has_not y x ys s (inr l)) refl in
    differ (sym (self x xs) ∙ h x ∙ gone)
  where
    apart : (x y : ℕ) → x < y → y ≡ x → ⊥
    apart x y l e = omega arith

    differ : true ≡ false → ⊥
    differ e = cc

same_head : (x y : ℕ) (xs ys : List ℕ) → IsOver x xs × AreRising xs → IsOver y ys × AreRising ys → ((q : ℕ) → has (x ∷ xs) q ≡ has (y ∷ ys) q) → x ≡ y
same_head x y xs ys r s h =
    let a = not_later x y xs ys r.0 s.0 h in
    let b = not_later y x ys xs s.0 r.0 (λ q. sym (h q)) in
    neither x y a b
  where
    neither : (x y : ℕ) → (x < y → ⊥) → (y < x → ⊥) → x ≡ y
    neither x y a b = omega arith

-- the same heads, then the same tails
pub one_list : (xs ys : List ℕ) → AreRising xs → AreRising ys → ((q : ℕ) → has xs q ≡ has ys q) → xs ≡ ys
one_list [] [] r s h = refl
one_list [] (y ∷ ys) r s h = absurd (differ (h y ∙ self y ys))
  where
    differ : false ≡ true → ⊥
    differ e = cc
one_list (x ∷ xs) [] r s h = absurd (differ (sym (h x) ∙ self x xs))
  where
    differ : false ≡ true → ⊥
    differ e = cc
one_list (x ∷ xs) (y ∷ ys) r s h =
    let e = same_head x y xs ys r s h in
    two e (one_list xs ys r.1 s.1 (tails x y xs ys r.0 s.0 e h))
  where
    two : x ≡ y → xs ≡ ys → (x ∷ xs) ≡ (y ∷ ys)
    two e f = cc

ltb_tells : (a b : ℕ) → ((nat_lt a b ≡ true) × (a < b)) ⊎ ((nat_lt a b ≡ false) × (b ≤ a))
ltb_tells a b = tells (nat_lt a b) refl
  where
    tells : (t : Bool) → nat_lt a b ≡ t → ((t ≡ true) × (a < b)) ⊎ ((t ≡ false) × (b ≤ a))
    tells true e = inl (refl, ltb-true a b e)
    tells false e = inr (refl, ltb-false a b e)

or_twice : (a b c : Bool) → a ≡ b → (a || (b || c)) ≡ (b || c)
or_twice true true c e = refl
or_twice false false c e = refl
or_twice true false c e = cc
or_twice false true c e = cc

or_swap : (a b c : Bool) → (a || (b || c)) ≡ (b || (a || c))
or_swap true true c = refl
or_swap true false c = refl
or_swap false b c = refl

or_assoc : (a b c : Bool) → ((a || b) || c) ≡ (a || (b || c))
or_assoc true b c = refl
or_assoc false b c = refl

insert_tests : (n m q : ℕ) (ms : List ℕ) → ((nat_eq n m ≡ true) × (n ≡ m)) ⊎ ((nat_eq n m ≡ false) × (n ≢ m)) → (b : Bool) → has (insert_id n ms) q ≡ (nat_eq n q || has ms q) →
    has (cond (nat_eq n m) (m ∷ ms) (cond b (n ∷ m ∷ ms) (m ∷ insert_id n ms))) q ≡ (nat_eq n q || (nat_eq m q || has ms q))
insert_tests n m q ms (inl t) b h = rw t.0 (sym (or_twice (nat_eq n q) (nat_eq m q) (has ms q) (ap (λ (z : ℕ). nat_eq z q) t.1)))
insert_tests n m q ms (inr t) true h = rw t.0 refl
insert_tests n m q ms (inr t) false h = rw t.0 (rw h (or_swap (nat_eq m q) (nat_eq n q) (has ms q)))

over_insert : (k n : ℕ) (ms : List ℕ) → k < n → IsOver k ms → IsOver k (insert_id n ms)
over_insert k n [] h o = (h, tt)
over_insert k n (m ∷ ms) h o = by_tests (nat_eq n m) (nat_lt n m) (over_insert k n ms h o.1)
  where
    by_tests : (a b : Bool) → IsOver k (insert_id n ms) → IsOver k (cond a (m ∷ ms) (cond b (n ∷ m ∷ ms) (m ∷ insert_id n ms)))
    by_tests true b i = o
    by_tests false true i = (h, o)
    by_tests false false i = (o.0, i)

insert_rising : (n m : ℕ) (ms : List ℕ) → IsOver m ms × AreRising ms → ((nat_eq n m ≡ true) × (n ≡ m)) ⊎ ((nat_eq n m ≡ false) × (n ≢ m)) →
    ((nat_lt n m ≡ true) × (n < m)) ⊎ ((nat_lt n m ≡ false) × (m ≤ n)) → AreRising (insert_id n ms) →
    AreRising (cond (nat_eq n m) (m ∷ ms) (cond (nat_lt n m) (n ∷ m ∷ ms) (m ∷ insert_id n ms)))
insert_rising n m ms r (inl t) l i = rw t.0 r
insert_rising n m ms r (inr t) (inl l) i = rw (t.0, l.0) ((l.1, over_less n m ms l.1 r.0), r)
insert_rising n m ms r (inr t) (inr l) i = rw (t.0, l.0) (over_insert m n ms (above m n l.1 t.1) r.0, i)
  where
    above : (m n : ℕ) → m ≤ n → n ≢ m → m < n
    above m n l t = omega arith

-- one id more, and two lists in one
has_insert : (n q : ℕ) (ms : List ℕ) → has (insert_id n ms) q ≡ (nat_eq n q || has ms q)
has_insert n q [] = refl
has_insert n q (m ∷ ms) = insert_tests n m q ms (eqb_tells n m) (nat_lt n m) (has_insert n q ms)

rising_insert : (n : ℕ) (ms : List ℕ) → AreRising ms → AreRising (insert_id n ms)
rising_insert n [] r = (tt, tt)
rising_insert n (m ∷ ms) r = insert_rising n m ms r (eqb_tells n m) (ltb_tells n m) (rising_insert n ms r.1)

pub has_merge : (q : ℕ) (ms ns : List ℕ) → has (merge ms ns) q ≡ (has ms q || has ns q)
has_merge q [] ns = refl
has_merge q (m ∷ ms) ns = has_insert m q (merge ms ns) ∙ ap (λ (b : Bool). nat_eq m q || b) (has_merge q ms ns) ∙ sym (or_assoc (nat_eq m q) (has ms q) (has ns q))

pub rising_merge : (ms ns : List ℕ) → AreRising ns → AreRising (merge ms ns)
rising_merge [] ns r = r
rising_merge (m ∷ ms) ns r = rising_insert m (merge ms ns) (rising_merge ms ns r)

-- the ids of the pairs that pass a test
ids_where : (Subscription → Bool) → List Subscription → List ℕ
ids_where p [] = []
ids_where p (x ∷ xs) = cond (p x) (x.id ∷ ids_where p xs) (ids_where p xs)

-- the pair of an id
find : List Subscription → ℕ → Option Subscription
find [] q = None
find (x ∷ xs) q = cond (nat_eq x.id q) (Some x) (find xs q)

test : (Subscription → Bool) → Option Subscription → Bool
test p None = false
test p (Some x) = p x

over_where : (p : Subscription → Bool) (n : ℕ) (xs : List Subscription) → IsBelow n xs → IsOver n (ids_where p xs)
unfolding ids_where
over_where p n [] h = tt
over_where p n (x ∷ xs) h = by_test (p x) (over_where p n xs h.1)
  where
    by_test : (b : Bool) → IsOver n (ids_where p xs) → IsOver n (cond b (x.id ∷ ids_where p xs) (ids_where p xs))
    by_test true i = (h.0, i)
    by_test false i = i

rising_where : (p : Subscription → Bool) (xs : List Subscription) → IsRising xs → AreRising (ids_where p xs)
unfolding ids_where
rising_where p [] r = tt
rising_where p (x ∷ xs) r = by_test (p x) (rising_where p xs r.1)
  where
    by_test : (b : Bool) → AreRising (ids_where p xs) → AreRising (cond b (x.id ∷ ids_where p xs) (ids_where p xs))
    by_test true i = (over_where p x.id xs r.0, i)
    by_test false i = i

-- an id is among them where its pair passes
has_where : (p : Subscription → Bool) (q : ℕ) (xs : List Subscription) → IsRising xs → has (ids_where p xs) q ≡ test p (find xs q)
unfolding ids_where find test
has_where p q [] r = refl
has_where p q (x ∷ xs) r = by_tests (eqb_tells x.id q) (p x) refl (has_where p q xs r.1)
  where
    by_tests : ((nat_eq x.id q ≡ true) × (x.id ≡ q)) ⊎ ((nat_eq x.id q ≡ false) × (x.id ≢ q)) → (b : Bool) → p x ≡ b → has (ids_where p xs) q ≡ test p (find xs q) →
        has (cond b (x.id ∷ ids_where p xs) (ids_where p xs)) q ≡ test p (cond (nat_eq x.id q) (Some x) (find xs q))
    by_tests (inl t) true e h = rw t.0 (sym e)
    by_tests (inl t) false e h = rw t.0 (has_not x.id q (ids_where p xs) (over_where p x.id xs r.0) (inl (sym t.1)) ∙ sym e)
    by_tests (inr t) true e h = rw t.0 h
    by_tests (inr t) false e h = rw t.0 h

-- the ids of the definitions are such
cons_where : (b : Bool) (x : Subscription) (fs : List Subscription) (r : List ℕ) → map (λ s. s.id) fs ≡ r → map (λ s. s.id) (cond b (x ∷ fs) fs) ≡ cond b (x.id ∷ r) r
cons_where true x fs r h = ap (λ (ns : List ℕ). x.id ∷ ns) h
cons_where false x fs r h = h

matching_where : (m : Way → Bool) (xs : List Subscription) → matching m xs ≡ ids_where (λ x. m x.filter) xs
unfolding ids_where
matching_where m [] = refl
matching_where m (x ∷ xs) = cons_where (m x.filter) x (filter (λ s. m s.filter) xs) (ids_where (λ s. m s.filter) xs) (matching_where m xs)

added_where : (m : Way → Bool) (p : Subscription → Bool) (xs : List Subscription) → matching m (filter p xs) ≡ ids_where (λ x. p x && m x.filter) xs
unfolding ids_where
added_where m p [] = refl
added_where m p (x ∷ xs) = by_test (p x) (added_where m p xs)
  where
    by_test : (a : Bool) → matching m (filter p xs) ≡ ids_where (λ z. p z && m z.filter) xs →
        matching m (cond a (x ∷ filter p xs) (filter p xs))
        ≡ cond (a && m x.filter) (x.id ∷ ids_where (λ z. p z && m z.filter) xs) (ids_where (λ z. p z && m z.filter) xs)
    by_test true h = cons_where (m x.filter) x (filter (λ s. m s.filter) (filter p xs)) (ids_where (λ z. p z && m z.filter) xs) h
    by_test false h = h

dropped_where : (q : ℕ) (p : Subscription → Bool) (xs : List Subscription) → has_id (filter p xs) q ≡ has (ids_where p xs) q
unfolding ids_where
dropped_where q p [] = refl
dropped_where q p (x ∷ xs) = by_test (p x) (dropped_where q p xs)
  where
    by_test : (a : Bool) → has_id (filter p xs) q ≡ has (ids_where p xs) q →
        has_id (cond a (x ∷ filter p xs) (filter p xs)) q ≡ has (cond a (x.id ∷ ids_where p xs) (ids_where p xs)) q
    by_test true h = ap (λ (b : Bool). nat_eq x.id q || b) h
    by_test false h = h

kept : (q : ℕ) (ns : List ℕ) (xs : List Subscription) → has (without_ids ns xs) q ≡ (has ns q && not (has_id xs q))
kept q [] xs = refl
kept q (n ∷ ns) xs = by_tests (has_id xs n) refl (eqb_tells n q) (kept q ns xs)
  where
    by_tests : (b : Bool) → has_id xs n ≡ b → ((nat_eq n q ≡ true) × (n ≡ q)) ⊎ ((nat_eq n q ≡ false) × (n ≢ q)) → has (without_ids ns xs) q ≡ (has ns q && not (has_id xs q)) →
        has (cond (not b) (n ∷ without_ids ns xs) (without_ids ns xs)) q ≡ ((nat_eq n q || has ns q) && not (has_id xs q))
    by_tests true e (inl t) h = rw t.0 (h ∙ gone (has ns q) (has_id xs q) (ap (has_id xs) (sym t.1) ∙ e))
      where
        gone : (a b : Bool) → b ≡ true → (a && not b) ≡ (true && not b)
        gone true b g = refl
        gone false true g = refl
        gone false false g = cc
    by_tests true e (inr t) h = rw t.0 h
    by_tests false e (inl t) h = rw t.0 (sym (ap not (ap (has_id xs) (sym t.1) ∙ e)))
    by_tests false e (inr t) h = rw t.0 h

-- which pair a pair of an id is among others
abbrev pub same_as : (Way → Way → Bool) → Subscription → Option Subscription → Bool
same_as same x None = false
same_as same x (Some y) = same x.filter y.filter

no_pair_below : (same : Way → Way → Bool) (x : Subscription) (ys : List Subscription) (n : ℕ) → IsBelow n ys → x.id ≡ n → list_any (is_pair same x) ys ≡ false
no_pair_below same x [] n h e = refl
no_pair_below same x (y ∷ ys) n h e = rw (ne_eqb x.id y.id (apart x.id y.id n h.0 e)) (no_pair_below same x ys n h.1 e)
  where
    apart : (a b n : ℕ) → n < b → a ≡ n → a ≡ b → ⊥
    apart a b n k e f = omega arith

pair_found : (same : Way → Way → Bool) (x : Subscription) (ys : List Subscription) → IsRising ys → list_any (is_pair same x) ys ≡ same_as same x (find ys x.id)
unfolding find
pair_found same x [] r = refl
pair_found same x (y ∷ ys) r = by_test (eqb_tells y.id x.id) (pair_found same x ys r.1)
  where
    by_test : ((nat_eq y.id x.id ≡ true) × (y.id ≡ x.id)) ⊎ ((nat_eq y.id x.id ≡ false) × (y.id ≢ x.id)) → list_any (is_pair same x) ys ≡ same_as same x (find ys x.id) →
        ((nat_eq x.id y.id && same x.filter y.filter) || list_any (is_pair same x) ys) ≡ same_as same x (cond (nat_eq y.id x.id) (Some y) (find ys x.id))
    by_test (inl t) h = rw (t.0, eq-eqb x.id y.id (sym t.1), no_pair_below same x ys y.id r.0 (sym t.1)) (or_false (same x.filter y.filter))
      where
        or_false : (b : Bool) → (b || false) ≡ b
        or_false true = refl
        or_false false = refl
    by_test (inr t) h = rw (t.0, ne_eqb x.id y.id (λ e. t.1 (sym e))) h

found_first : (xs : List Subscription) (q : ℕ) → find xs q ≡ lists.find (is_of q) xs
unfolding find
found_first [] q = refl
found_first (x ∷ xs) q = ap (λ (o : Option Subscription). cond (nat_eq x.id q) (Some x) o) (found_first xs q)

-- a list has a pair where its filter of that id is the same
pub pair_told : (same : Way → Way → Bool) (xs : List Subscription) (x : Subscription) (b : Option Subscription) → Rising (map (λ s. s.id) xs) → b ≡ lists.find (is_of x.id) xs →
    same_as same x b ≡ list_any (is_pair same x) xs
pair_told same xs x b rising e = ap (same_as same x) (e ∙ sym (found_first xs x.id)) ∙ sym (pair_found same x xs (is_rising xs rising))

found_id : (xs : List Subscription) (q : ℕ) (x : Subscription) → find xs q ≡ Some x → x.id ≡ q
unfolding find
found_id [] q x e = cc
found_id (y ∷ xs) q x e = by_test (eqb_tells y.id q) e (found_id xs q x)
  where
    by_test : ((nat_eq y.id q ≡ true) × (y.id ≡ q)) ⊎ ((nat_eq y.id q ≡ false) × (y.id ≢ q)) → cond (nat_eq y.id q) (Some y) (find xs q) ≡ Some x → (find xs q ≡ Some x → x.id ≡ q) → x.id ≡ q
    by_test (inl t) e again = let s : Some y ≡ Some x = sym (ap (λ (b : Bool). cond b (Some y) (find xs q)) t.0) ∙ e in let f : y ≡ x = cc in ap (λ (z : Subscription). z.id) (sym f) ∙ t.1
    by_test (inr t) e again = again (sym (ap (λ (b : Bool). cond b (Some y) (find xs q)) t.0) ∙ e)

in_base : (same : Way → Way → Bool) (x : Subscription) (ys : List Subscription) (q : ℕ) (b : Option Subscription) → IsRising ys → x.id ≡ q → find ys q ≡ b → list_any (is_pair same x) ys ≡ same_as same x b
in_base same x ys q b r e f = pair_found same x ys r ∙ ap (λ (n : ℕ). same_as same x (find ys n)) e ∙ ap (same_as same x) f

members : (same : Way → Way → Bool) → TellsSame same → (m : Way → Bool) (base front : List Subscription) (q : ℕ) → IsRising base → IsRising front → (a b : Option Subscription) → find base q ≡ a → find front q ≡ b →
    ((test (λ x. m x.filter) a && not (test (λ x. not (list_any (is_pair same x) front)) a)) || test (λ x. not (list_any (is_pair same x) base) && m x.filter) b)
    ≡ test (λ x. m x.filter) b
unfolding test
members same tells m base front q r s None None ea eb = refl
members same tells m base front q r s (Some x) None ea eb =
    rw (in_base same x front q None s (found_id base q x ea) eb) (gone (m x.filter))
  where
    gone : (a : Bool) → ((a && false) || false) ≡ false
    gone true = refl
    gone false = refl
members same tells m base front q r s None (Some y) ea eb = rw (in_base same y base q None r (found_id front q y eb) ea) refl
members same tells m base front q r s (Some x) (Some y) ea eb =
    rw (in_base same x front q (Some y) s (found_id base q x ea) eb, in_base same y base q (Some x) r (found_id front q y eb) ea)
    (by_filter (way_tells same tells x.filter y.filter))
  where
    by_filter : ((same x.filter y.filter ≡ true) × (x.filter ≡ y.filter)) ⊎ ((same x.filter y.filter ≡ false) × (x.filter ≢ y.filter)) →
        ((m x.filter && not (not (same x.filter y.filter))) || (not (same y.filter x.filter) && m y.filter)) ≡ m y.filter
    by_filter (inl t) = rw (t.0, same_true same tells y.filter x.filter (sym t.1)) (alike (m x.filter) (m y.filter) (ap m t.1))
      where
        alike : (a b : Bool) → a ≡ b → ((a && true) || false) ≡ b
        alike true b e = e
        alike false b e = e
    by_filter (inr t) = rw (t.0, same_false same tells y.filter x.filter (λ e. t.1 (sym e))) (other (m x.filter) (m y.filter))
      where
        other : (a b : Bool) → ((a && false) || b) ≡ b
        other true b = refl
        other false b = refl

pub front_is : (same : Way → Way → Bool) → TellsSame same → (m : Way → Bool) (base front : List Subscription) → Rising (map (λ s. s.id) base) → Rising (map (λ s. s.id) front) →
    matching m front ≡ merge (without_ids (matching m base) (without same base front)) (matching m (without same front base))
front_is same tells m base front rb rf =
    let r = is_rising base rb in
    let s = is_rising front rf in
    let out : Subscription → Bool = λ x. not (list_any (is_pair same x) front) in
    let new : Subscription → Bool = λ x. not (list_any (is_pair same x) base) in
    sym (one_list (merge (without_ids (matching m base) (without same base front)) (matching m (without same front base))) (matching m front)
    (rising_merge (without_ids (matching m base) (without same base front)) (matching m (without same front base))
    (subst AreRising (sym (added_where m new front)) (rising_where (λ x. new x && m x.filter) front s)))
    (subst AreRising (sym (matching_where m front)) (rising_where (λ x. m x.filter) front s))
    (λ q.
    has_merge q (without_ids (matching m base) (without same base front)) (matching m (without same front base))
    ∙ ap (λ (b : Bool). b || has (matching m (without same front base)) q) (kept q (matching m base) (without same base front)
    ∙ ap (λ (b : Bool). b && not (has_id (without same base front) q)) (ap (λ (ns : List ℕ). has ns q) (matching_where m base) ∙ has_where (λ x. m x.filter) q base r)
    ∙ ap (λ (b : Bool). test (λ x. m x.filter) (find base q) && not b) (dropped_where q out base ∙ has_where out q base r))
    ∙ ap (λ (b : Bool). (test (λ x. m x.filter) (find base q) && not (test out (find base q))) || b)
    (ap (λ (ns : List ℕ). has ns q) (added_where m new front) ∙ has_where (λ x. new x && m x.filter) q front s)
    ∙ members same tells m base front q r s (find base q) (find front q) refl refl
    ∙ sym (ap (λ (ns : List ℕ). has ns q) (matching_where m front) ∙ has_where (λ x. m x.filter) q front s)))
