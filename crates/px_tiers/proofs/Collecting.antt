-- Ids that are gathered, and the live filters that they have.
use Rattle.std.proofs.Common.{◌≡◌, ◌≢◌, ℕ, zero, suc, ◌+◌, ◌<◌, ◌≤◌, Bool, true, false, ◌&&◌, ◌||◌, cond, List, [], ◌∷◌, ◌++◌, append_assoc, append-nil, length, get_or, take, map, drop, filter, Option, Some, None, refl, sym, ap, ◌∙◌, subst, arith, eqb, nat_eq, IsSome, if◌then◌else◌, ◌⊎◌, inl, inr}
use Rattle.std.specs.Prelude.{All, find, option_to_list, ◌==◌}
use Rattle.std.proofs.lemmas.Bool.{eq-eqb, ne_eqb, eqb-true, or_left, or_right, cases_lt}
use Rattle.std.proofs.lemmas.Bool.Decides.{eqb_tells}
use Rattle.std.proofs.lemmas.List.Elements.{All-nil, All-cons, All-head, All-tail, All-weaker}
use Rattle.std.proofs.lemmas.List.{take_more, take_all}
use Rattle.std.proofs.lemmas.List.Folds.{list_any-append}
use Rattle.std.proofs.lemmas.List.Sums.{sum_by-cons}
use Rattle.px_text.specs.Sets.{has, Above, Rising}
use Rattle.px_xpath.specs.Histories.{Subscription, IsLive, is_of, live_size, size}
use Rattle.px_afa.specs.Sound.{AreRising}
use Rattle.px_tiers.specs.Parts.{Homes, at_home, AreLiveAtHome, ids_where, moved, among}
use Rattle.px_tiers.proofs.Shared.{agree_on, passes_there}

-- the live filters of ids, one after the other
abbrev pub collected : List ℕ → List Subscription → List Subscription
collected [] live = []
collected (id ∷ ids) live = option_to_list (find (is_of id) live) ++ collected ids live

collected_none : (ids : List ℕ) → collected ids [] ≡ []
collected_none [] = refl
collected_none (id ∷ ids) = collected_none ids

above_numbers : (n : ℕ) (ids : List ℕ) → Above n ids → AreRising ids → All (λ m. n < m) ids
above_numbers n [] a r = All-nil (λ m. n < m)
above_numbers n (id ∷ ids) a r =
    All-cons (λ m. n < m) id ids a (All-weaker (λ m. id < m) (λ m. n < m) (λ m l. let k : n < id = a in omega arith) ids (above_numbers id ids r.0 r.1))

above_live : (n : ℕ) (live : List Subscription) → Above n (map (λ s. s.id) live) → Rising (map (λ s. s.id) live) → All (λ (s : Subscription). n < s.id) live
above_live n [] a r = All-nil (λ (s : Subscription). n < s.id)
above_live n (s ∷ live) a r =
    All-cons (λ (x : Subscription). n < x.id) s live a
    (All-weaker (λ (x : Subscription). s.id < x.id) (λ (x : Subscription). n < x.id) (λ x l. let k : n < s.id = a in omega arith) live (above_live s.id live r.1 r.2))

not_among : (n : ℕ) (ids : List ℕ) → All (λ m. n < m) ids → has ids n ≡ false
not_among n [] h = refl
not_among n (id ∷ ids) h =
    let l : n < id = All-head (λ m. n < m) id ids h in
    rw (ne_eqb id n (λ e. absurd (omega arith))) (not_among n ids (All-tail (λ m. n < m) id ids h))

skipped : (s : Subscription) (live : List Subscription) (ids : List ℕ) → All (λ m. s.id < m) ids → collected ids (s ∷ live) ≡ collected ids live
skipped s live [] h = refl
skipped s live (id ∷ ids) h =
    let l : s.id < id = All-head (λ m. s.id < m) id ids h in
    rw (ne_eqb s.id id (λ e. absurd (omega arith))) (ap (λ (rest : List Subscription). option_to_list (find (is_of id) live) ++ rest) (skipped s live ids (All-tail (λ m. s.id < m) id ids h)))

not_found : (id : ℕ) (live : List Subscription) → All (λ (s : Subscription). id < s.id) live → find (is_of id) live ≡ None
not_found id [] h = refl
not_found id (s ∷ live) h =
    let l : id < s.id = All-head (λ (x : Subscription). id < x.id) s live h in
    rw (ne_eqb s.id id (λ e. absurd (omega arith))) (not_found id live (All-tail (λ (x : Subscription). id < x.id) s live h))

among_more : (id : ℕ) (ids : List ℕ) (live : List Subscription) → All (λ (s : Subscription). id < s.id) live → among (id ∷ ids) live ≡ among ids live
among_more id ids live h =
    agree_on (λ s. has (id ∷ ids) s.id) (λ s. has ids s.id) live
    (All-weaker (λ (s : Subscription). id < s.id) (λ s. has (id ∷ ids) s.id ≡ has ids s.id) (λ s l. rw (ne_eqb id s.id (λ e. absurd (omega arith))) refl) live h)

ordered : (a b : ℕ) → (a < b) ⊎ ((a ≡ b) ⊎ (b < a))
ordered a b = elim (cases_lt a b) [ inl l ↦ inl l | inr l ↦ by (eqb_tells a b) l ]
  where
    by : ((eqb a b ≡ true) × (a ≡ b)) ⊎ ((eqb a b ≡ false) × (a ≢ b)) → b ≤ a → (a < b) ⊎ ((a ≡ b) ⊎ (b < a))
    by (inl t) l = inr (inl t.1)
    by (inr t) l = let other = t.1 in inr (inr (omega arith))

collected_behind : (s : Subscription) (live : List Subscription) → All (λ (x : Subscription). s.id < x.id) live → ((ids : List ℕ) → AreRising ids → collected ids live ≡ among ids live) →
    (ids : List ℕ) → AreRising ids → collected ids (s ∷ live) ≡ among ids (s ∷ live)
collected_behind s live above ih [] r = ih [] tt
collected_behind s live above ih (id ∷ ids) r = by (ordered id s.id) (collected_behind s live above ih ids r.1)
  where
    by : (id < s.id) ⊎ ((id ≡ s.id) ⊎ (s.id < id)) → collected ids (s ∷ live) ≡ among ids (s ∷ live) → collected (id ∷ ids) (s ∷ live) ≡ among (id ∷ ids) (s ∷ live)
    by (inl l) rest =
        let all : All (λ (x : Subscription). id < x.id) (s ∷ live) = All-cons (λ (x : Subscription). id < x.id) s live l (All-weaker (λ (x : Subscription). s.id < x.id) (λ (x : Subscription). id < x.id) (λ x m. omega arith) live above) in
        ap (λ (found : Option Subscription). option_to_list found ++ collected ids (s ∷ live)) (not_found id (s ∷ live) all) ∙ rest ∙ sym (among_more id ids (s ∷ live) all)
    by (inr (inl e)) rest =
        let higher : All (λ m. s.id < m) ids = All-weaker (λ m. id < m) (λ m. s.id < m) (λ m l. omega arith) ids (above_numbers id ids r.0 r.1) in
        let others : All (λ (x : Subscription). id < x.id) live = All-weaker (λ (x : Subscription). s.id < x.id) (λ (x : Subscription). id < x.id) (λ x m. omega arith) live above in
        let tail : collected ids (s ∷ live) ≡ among (id ∷ ids) live = skipped s live ids higher ∙ ih ids r.1 ∙ sym (among_more id ids live others) in
        rw (eq-eqb s.id id (sym e), eq-eqb id s.id e) (ap (λ (rest : List Subscription). s ∷ rest) tail)
    by (inr (inr l)) rest =
        let higher : All (λ m. s.id < m) (id ∷ ids) = All-cons (λ m. s.id < m) id ids l (All-weaker (λ m. id < m) (λ m. s.id < m) (λ m k. omega arith) ids (above_numbers id ids r.0 r.1)) in
        skipped s live (id ∷ ids) higher ∙ ih (id ∷ ids) r ∙ sym (ap (λ (b : Bool). cond b (s ∷ among (id ∷ ids) live) (among (id ∷ ids) live)) (not_among s.id (id ∷ ids) higher))

-- Of ids that rise they are those of the live list that have one of them.
pub collected_among : (live : List Subscription) → Rising (map (λ s. s.id) live) → (ids : List ℕ) → AreRising ids → collected ids live ≡ among ids live
collected_among [] r ids s = collected_none ids
collected_among (s ∷ live) r ids t = collected_behind s live (above_live s.id live r.1 r.2) (collected_among live r.2) ids t

pub collected_more : (ids : List ℕ) (id : ℕ) (live : List Subscription) → collected (ids ++ id ∷ []) live ≡ collected ids live ++ option_to_list (find (is_of id) live)
collected_more [] id live = grind (arith, append-nil)
collected_more (x ∷ ids) id live = ap (λ (rest : List Subscription). option_to_list (find (is_of x) live) ++ rest) (collected_more ids id live) ∙ sym (append_assoc (option_to_list (find (is_of x) live)) (collected ids live) (option_to_list (find (is_of id) live)))

-- some of them are no larger than all
pub among_size : (ids : List ℕ) (live : List Subscription) → live_size (among ids live) ≤ live_size live
among_size ids [] = omega arith
among_size ids (s ∷ live) = by (has ids s.id) (among_size ids live)
  where
    by : (b : Bool) → live_size (among ids live) ≤ live_size live → live_size (cond b (s ∷ among ids live) (among ids live)) ≤ live_size (s ∷ live)
    by true h = let a = sum_by-cons (λ x. size x.filter) s (among ids live) in let b = sum_by-cons (λ x. size x.filter) s live in omega arith
    by false h = let b = sum_by-cons (λ x. size x.filter) s live in omega arith

-- one more that has moved
pub has_push : (ids : List ℕ) (id q : ℕ) → has (ids ++ id ∷ []) q ≡ (has ids q || nat_eq id q)
has_push [] id q = by (nat_eq id q)
  where
    by : (b : Bool) → (b || false) ≡ b
    by true = refl
    by false = refl
has_push (x ∷ ids) id q = by (nat_eq x q) (has_push ids id q)
  where
    by : (b : Bool) → has (ids ++ id ∷ []) q ≡ (has ids q || nat_eq id q) → (b || has (ids ++ id ∷ []) q) ≡ ((b || has ids q) || nat_eq id q)
    by true h = refl
    by false h = h

pub moved_more : (homes : Homes) (ids all : List ℕ) (id n q : ℕ) → all ≡ ids ++ id ∷ [] → (if q == id then n else moved ids n homes q) ≡ moved all n homes q
moved_more homes ids all id n q e = by (eqb_tells q id) ∙ ap (λ (list : List ℕ). moved list n homes q) (sym e)
  where
    by : ((eqb q id ≡ true) × (q ≡ id)) ⊎ ((eqb q id ≡ false) × (q ≢ id)) → (if q == id then n else moved ids n homes q) ≡ moved (ids ++ id ∷ []) n homes q
    by (inl t) = rw (t.0, has_push ids id q, eq-eqb id q (sym t.1)) (sym (ap (λ (b : Bool). if b then n else homes q) (ending (has ids q))))
      where
        ending : (b : Bool) → (b || true) ≡ true
        ending true = refl
        ending false = refl
    by (inr t) = rw (t.0, has_push ids id q, ne_eqb id q (λ e. t.1 (sym e))) (sym (ap (λ (b : Bool). if b then n else homes q) (ending (has ids q))))
      where
        ending : (b : Bool) → (b || false) ≡ b
        ending true = refl
        ending false = refl

-- each live filter is found under its id
pub own_found : (live : List Subscription) → All (λ s. IsLive s.id live) live
own_found [] = All-nil (λ s. IsLive s.id [])
own_found (s ∷ live) =
    All-cons (λ x. IsLive x.id (s ∷ live)) s live (rw (eq-eqb s.id s.id refl) refl)
    (All-weaker (λ x. IsLive x.id live) (λ x. IsLive x.id (s ∷ live)) (λ x h. by (s.id == x.id) (find (is_of x.id) live) h) live (own_found live))
  where
    by : (b : Bool) (found : Option Subscription) → IsSome found → IsSome (cond b (Some s) found)
    by true found h = refl
    by false found h = h

-- which ids are at home under a number
filter_all : (list : List Subscription) → filter (λ s. true) list ≡ list
filter_all [] = refl
filter_all (s ∷ list) = ap (λ (rest : List Subscription). s ∷ rest) (filter_all list)

pub ids_there : (homes : Homes) (n : ℕ) (part live : List Subscription) (q : ℕ) → at_home homes n part ≡ at_home homes n live → homes q ≡ n → has (map (λ s. s.id) live) q ≡ has (map (λ s. s.id) part) q
ids_there homes n part live q same home =
    sym (on live) ∙ ap (λ (list : List Subscription). has (ids_where (λ f. true) list) q) (sym same) ∙ on part
  where
    on : (list : List Subscription) → has (ids_where (λ f. true) (at_home homes n list)) q ≡ has (map (λ s. s.id) list) q
    on list =
        passes_there homes n (λ f. true) list q
        ∙ ap (λ (b : Bool). b && has (ids_where (λ f. true) list) q) (eq-eqb (homes q) n home)
        ∙ ap (λ (all : List Subscription). has (map (λ s. s.id) all) q) (filter_all list)

pub own_listed : (live : List Subscription) → All (λ s. has (map (λ x. x.id) live) s.id ≡ true) live
own_listed [] = All-nil (λ s. has [] s.id ≡ true)
own_listed (s ∷ live) =
    All-cons (λ x. has (map (λ y. y.id) (s ∷ live)) x.id ≡ true) s live (or_left (nat_eq s.id s.id) (has (map (λ y. y.id) live) s.id) (eq-eqb s.id s.id refl))
    (All-weaker (λ x. has (map (λ y. y.id) live) x.id ≡ true) (λ x. has (map (λ y. y.id) (s ∷ live)) x.id ≡ true)
    (λ x h. or_right (nat_eq s.id x.id) (has (map (λ y. y.id) live) x.id) h) live (own_listed live))

pub dropped_at_home : (homes : Homes) (kept n m : ℕ) (parts : List (List Subscription)) (live : List Subscription) → m ≡ n + kept → AreLiveAtHome homes n parts live → AreLiveAtHome homes m (drop kept parts) live
dropped_at_home homes zero n m parts live e h = let same : m ≡ n = omega arith in let P : ℕ → Type 0 = λ k. AreLiveAtHome homes k parts live in subst P (sym same) h
dropped_at_home homes (suc kept) n m [] live e h = tt
dropped_at_home homes (suc kept) n m (part ∷ parts) live e h = dropped_at_home homes kept (n + 1) m parts live (omega arith) h.1

-- what is put behind other numbers if it is wanted
abbrev pub if_wanted : (wanted : Bool) → (n : ℕ) → List ℕ
if_wanted wanted n = if wanted then n ∷ [] else []

has_both : (xs ys : List ℕ) (q : ℕ) → has (xs ++ ys) q ≡ (has xs q || has ys q)
has_both xs ys q = list_any-append (λ m. nat_eq m q) xs ys

pub more_has : (xs ys all : List ℕ) (q : ℕ) → all ≡ xs ++ ys → has xs q ≡ true → has all q ≡ true
more_has xs ys all q e h = ap (λ (list : List ℕ). has list q) e ∙ has_both xs ys q ∙ or_left (has xs q) (has ys q) h

next_has : (ids : List ℕ) (i n q : ℕ) → i < length ids → n ≡ get_or ids i 0 → has (take (i + 1) ids) q ≡ (has (take i ids) q || nat_eq n q)
next_has ids i n q lt at = ap (λ (list : List ℕ). has list q) (take_more ids i 0 lt) ∙ has_push (take i ids) (get_or ids i 0) q ∙ ap (λ (m : ℕ). has (take i ids) q || nat_eq m q) (sym at)

pub wanted_more : (ids found new : List ℕ) (i n q : ℕ) (wanted : Bool) → i < length ids → n ≡ get_or ids i 0 → new ≡ found ++ if_wanted wanted n → (n ≡ q → wanted ≡ true) →
    (has (take i ids) q ≡ true → has found q ≡ true) → has (take (i + 1) ids) q ≡ true → has new q ≡ true
wanted_more ids found new i n q wanted lt at is wants before h = by (has (take i ids) q) (nat_eq n q) refl refl (sym (next_has ids i n q lt at) ∙ h)
  where
    by : (a b : Bool) → has (take i ids) q ≡ a → nat_eq n q ≡ b → (a || b) ≡ true → has new q ≡ true
    by true b ea eb e = more_has found (if_wanted wanted n) new q is (before ea)
    by false true ea eb e =
        let one : has (if_wanted wanted n) q ≡ true = ap (λ (w : Bool). has (if_wanted w n) q) (wants (eqb-true n q eb)) ∙ or_left (nat_eq n q) false eb in
        ap (λ (list : List ℕ). has list q) is ∙ has_both found (if_wanted wanted n) q ∙ or_right (has found q) (has (if_wanted wanted n) q) one
    by false false ea eb e = absurd (cc)

pub kept_more : (homes : Homes) (m : ℕ) (ids first kept new : List ℕ) (i n q : ℕ) → i < length ids → n ≡ get_or ids i 0 → new ≡ kept ++ if_wanted (homes n == m) n →
    has kept q ≡ (has first q || (homes q == m && has (take i ids) q)) → has new q ≡ (has first q || (homes q == m && has (take (i + 1) ids) q))
kept_more homes m ids first kept new i n q lt at is before =
    ap (λ (list : List ℕ). has list q) is ∙ has_both kept (if_wanted (homes n == m) n) q ∙ rw (before, one) (both (has first q) (homes q == m) (has (take i ids) q) (nat_eq n q))
    ∙ ap (λ (b : Bool). has first q || (homes q == m && b)) (sym (next_has ids i n q lt at))
  where
    one : has (if_wanted (homes n == m) n) q ≡ (homes q == m && nat_eq n q)
    one = by (eqb_tells n q)
      where
        there : (b : Bool) → has (if_wanted b n) q ≡ (b && nat_eq n q)
        there true = last (nat_eq n q)
          where
            last : (b : Bool) → (b || false) ≡ b
            last true = refl
            last false = refl
        there false = refl

        none : (b : Bool) → (b && false) ≡ false
        none true = refl
        none false = refl

        by : ((eqb n q ≡ true) × (n ≡ q)) ⊎ ((eqb n q ≡ false) × (n ≢ q)) → has (if_wanted (homes n == m) n) q ≡ (homes q == m && nat_eq n q)
        by (inl t) = there (homes n == m) ∙ ap (λ (k : ℕ). homes k == m && nat_eq n q) t.1
        by (inr t) = there (homes n == m) ∙ rw t.0 (none (homes n == m) ∙ sym (none (homes q == m)))

    both : (k h t e : Bool) → ((k || (h && t)) || (h && e)) ≡ (k || (h && (t || e)))
    both true h t e = refl
    both false true t e = refl
    both false false t e = refl

-- the filters of one id more
pub filters_more : (ids : List ℕ) (live before now : List Subscription) (i n : ℕ) → i < length ids → n ≡ get_or ids i 0 → before ≡ collected (take i ids) live →
    now ≡ before ++ option_to_list (find (is_of n) live) → now ≡ collected (take (i + 1) ids) live
filters_more ids live before now i n lt at so_far is =
    is ∙ ap (λ (l : List Subscription). l ++ option_to_list (find (is_of n) live)) so_far ∙ ap (λ (m : ℕ). collected (take i ids) live ++ option_to_list (find (is_of m) live)) at
    ∙ sym (collected_more (take i ids) (get_or ids i 0) live) ∙ ap (λ (l : List ℕ). collected l live) (sym (take_more ids i 0 lt))

pub filters_all : (ids : List ℕ) (live found : List Subscription) (i : ℕ) → length ids ≤ i → found ≡ collected (take i ids) live → Rising (map (λ s. s.id) live) → AreRising ids → found ≡ among ids live
filters_all ids live found i le is rising up = is ∙ ap (λ (l : List ℕ). collected l live) (take_all i ids le) ∙ collected_among live rising ids up
