-- Live filters that are shared out among lists.
use Rattle.std.proofs.Common.{◌≡◌, ◌≢◌, ℕ, ◌+◌, ◌<◌, ◌≤◌, Bool, true, false, not, ◌&&◌, ◌||◌, cond, List, [], ◌∷◌, ◌++◌, length, length-append, map, filter, refl, sym, ap, ◌∙◌, subst, arith, eqb, nat_eq, IsTrue, if◌then◌else◌, ◌⊎◌, inl, inr}
use Rattle.std.specs.Prelude.{All, ◌==◌}
use Rattle.std.proofs.lemmas.Bool.{eq-eqb, ne_eqb, eqb-true, or_left, or_right, cases_lt}
use Rattle.std.proofs.lemmas.Bool.Decides.{eqb_tells}
use Rattle.std.proofs.lemmas.List.Elements.{filter_agree, All-nil, All-cons, All-head, All-tail, All-weaker, All-filter, All-same}
use Rattle.px_text.specs.Sets.{has, Above, Rising}
use Rattle.px_text.proofs.RisingLists.{rising_same}
use Rattle.px_xpath.specs.Filters.{Way}
use Rattle.px_xpath.specs.Histories.{Subscription}
use Rattle.px_tiers.specs.Parts.{Homes, at_home, AreLiveAtHome, HasHome, AreShared, ids_where, passes_at_home, others, without_home, moved, among, IsGathered}

-- two tests that agree at the elements of a list
pub agree_on : (p q : Subscription → Bool) (list : List Subscription) → All (λ s. p s ≡ q s) list → filter p list ≡ filter q list
agree_on p q [] h = refl
agree_on p q (s ∷ list) h = rw (All-head (λ x. p x ≡ q x) s list h, agree_on p q list (All-tail (λ x. p x ≡ q x) s list h)) refl

-- one test behind another
twice : (p q : Subscription → Bool) (list : List Subscription) → filter p (filter q list) ≡ filter (λ s. q s && p s) list
twice p q [] = refl
twice p q (s ∷ list) = by (q s) (p s) refl (twice p q list)
  where
    by : (b c : Bool) → p s ≡ c → filter p (filter q list) ≡ filter (λ x. q x && p x) list →
        filter p (cond b (s ∷ filter q list) (filter q list)) ≡ cond (b && c) (s ∷ filter (λ x. q x && p x) list) (filter (λ x. q x && p x) list)
    by true true e h = rw e (ap (λ (rest : List Subscription). s ∷ rest) h)
    by true false e h = rw e h
    by false c e h = h

-- an id passes among those at home under a number where it is at home there and passes at all
pub passes_there : (homes : Homes) (n : ℕ) (test : Way → Bool) (list : List Subscription) (id : ℕ) →
    has (ids_where test (at_home homes n list)) id ≡ (homes id == n && has (ids_where test list) id)
passes_there homes n test [] id = never (homes id == n)
  where
    never : (b : Bool) → false ≡ (b && false)
    never true = refl
    never false = refl
passes_there homes n test (s ∷ list) id =
    by (homes s.id == n) (test s.filter) (s.id == id) refl refl (λ e. ap (λ (q : ℕ). homes q == n) (eqb-true s.id id e)) (passes_there homes n test list id)
  where
    inside : (e h r : Bool) → (e ≡ true → true ≡ h) → (e || (h && r)) ≡ (h && (e || r))
    inside true h r same = rw (sym (same refl)) refl
    inside false h r same = refl

    outside : (e h r : Bool) → (e ≡ true → false ≡ h) → (h && r) ≡ (h && (e || r))
    outside true h r same = rw (sym (same refl)) refl
    outside false h r same = refl

    by : (b t e : Bool) → test s.filter ≡ t → (s.id == id) ≡ e → (e ≡ true → b ≡ (homes id == n)) →
        has (ids_where test (at_home homes n list)) id ≡ (homes id == n && has (ids_where test list) id) →
        has (ids_where test (cond b (s ∷ at_home homes n list) (at_home homes n list))) id ≡ (homes id == n && has (map (λ x. x.id) (cond t (s ∷ filter (λ x. test x.filter) list) (filter (λ x. test x.filter) list))) id)
    by true true e te ee same h = rw (te, ee, h) (inside e (homes id == n) (has (ids_where test list) id) same)
    by true false e te ee same h = rw te h
    by false true e te ee same h = rw (ee, h) (outside e (homes id == n) (has (ids_where test list) id) same)
    by false false e te ee same h = h

-- whether a number is one of so many, from a first one on
is_number : (n : ℕ) → List (List Subscription) → ℕ → Bool
is_number n [] home = false
is_number n (part ∷ parts) home = (home == n) || is_number (n + 1) parts home

passes : (homes : Homes) (test : Way → Bool) (n : ℕ) (parts : List (List Subscription)) (live : List Subscription) (id : ℕ) → AreLiveAtHome homes n parts live →
    passes_at_home homes test n parts id ≡ (is_number n parts (homes id) && has (ids_where test live) id)
unfolding is_number
passes homes test n [] live id h = refl
passes homes test n (part ∷ parts) live id h =
    let here = sym (passes_there homes n test part id) ∙ ap (λ (list : List Subscription). has (ids_where test list) id) h.0 ∙ passes_there homes n test live id in
    rw (here, passes homes test (n + 1) parts live id h.1) (either (homes id == n) (is_number (n + 1) parts (homes id)) (has (ids_where test live) id))
  where
    either : (a b l : Bool) → ((a && l) || (b && l)) ≡ ((a || b) && l)
    either true true true = refl
    either true true false = refl
    either true false true = refl
    either true false false = refl
    either false b l = refl

numbered : (n home : ℕ) (parts : List (List Subscription)) → n ≤ home → home < n + length parts → is_number n parts home ≡ true
unfolding is_number
numbered n home [] low high = absurd (omega arith)
numbered n home (part ∷ parts) low high = by (eqb_tells home n) (λ other. numbered (n + 1) home parts (omega arith) (omega arith))
  where
    by : ((eqb home n ≡ true) × (home ≡ n)) ⊎ ((eqb home n ≡ false) × (home ≢ n)) → (home ≢ n → is_number (n + 1) parts home ≡ true) →
        ((home == n) || is_number (n + 1) parts home) ≡ true
    by (inl t) behind = or_left (home == n) (is_number (n + 1) parts home) t.0
    by (inr t) behind = or_right (home == n) (is_number (n + 1) parts home) (behind t.1)

-- an id of the live list has a number among the lists, where nobody waits
live_numbered : (homes : Homes) (parts : List (List Subscription)) (test : Way → Bool) (live : List Subscription) (id : ℕ) →
    All (HasHome homes (length parts) []) live → has (ids_where test live) id ≡ true → is_number 1 parts (homes id) ≡ true
live_numbered homes parts test [] id all h = cc
live_numbered homes parts test (s ∷ live) id all h =
    by (test s.filter) (s.id == id) refl (λ e. eqb-true s.id id e) (live_numbered homes parts test live id (All-tail (HasHome homes (length parts) []) s live all)) h
  where
    housed : HasHome homes (length parts) [] s
    housed = All-head (HasHome homes (length parts) []) s live all

    not_none : homes s.id ≢ 0
    not_none none = let waits = housed.waits none in absurd (cc)

    there : s.id ≡ id → is_number 1 parts (homes id) ≡ true
    there same =
        let within = housed.within in let some = not_none in
        let here : is_number 1 parts (homes s.id) ≡ true = numbered 1 (homes s.id) parts (omega arith) (omega arith) in
        ap (λ (q : ℕ). is_number 1 parts (homes q)) (sym same) ∙ here

    by : (t e : Bool) → (s.id == id) ≡ e → (e ≡ true → s.id ≡ id) → (has (ids_where test live) id ≡ true → is_number 1 parts (homes id) ≡ true) →
        has (map (λ x. x.id) (cond t (s ∷ filter (λ x. test x.filter) live) (filter (λ x. test x.filter) live))) id ≡ true → is_number 1 parts (homes id) ≡ true
    by false e ee same behind h = behind h
    by true true ee same behind h = there (same refl)
    by true false ee same behind h = behind (rw ee at h)

pub found : (homes : Homes) (parts : List (List Subscription)) (live : List Subscription) (test : Way → Bool) → AreShared homes parts [] live → (id : ℕ) →
    passes_at_home homes test 1 parts id ≡ has (ids_where test live) id
found homes parts live test shared id =
    passes homes test 1 parts live id shared.at_home
    ∙ only (is_number 1 parts (homes id)) (has (ids_where test live) id) (live_numbered homes parts test live id shared.all)
  where
    only : (r l : Bool) → (l ≡ true → r ≡ true) → (r && l) ≡ l
    only r true h = rw (h refl) refl
    only true false h = refl
    only false false h = refl

above_less : (a b : ℕ) (ids : List ℕ) → a < b → Above b ids → Above a ids
above_less a b [] l h = tt
above_less a b (id ∷ ids) l h = let m : b < id = h in omega arith

above_passing : (a : ℕ) (p : Subscription → Bool) (list : List Subscription) → Above a (map (λ s. s.id) list) → Rising (map (λ s. s.id) list) → Above a (map (λ s. s.id) (filter p list))
above_passing a p [] h r = tt
above_passing a p (s ∷ list) h r = by (p s) (above_passing a p list (above_less a s.id (map (λ x. x.id) list) h r.1) r.2)
  where
    by : (b : Bool) → Above a (map (λ x. x.id) (filter p list)) → Above a (map (λ x. x.id) (cond b (s ∷ filter p list) (filter p list)))
    by true behind = h
    by false behind = behind

-- what passes of a list in order is in order
pub rising_passing : (p : Subscription → Bool) (list : List Subscription) → Rising (map (λ s. s.id) list) → Rising (map (λ s. s.id) (filter p list))
rising_passing p [] r = tt
rising_passing p (s ∷ list) r = by (p s) (rising_passing p list r.2)
  where
    by : (b : Bool) → Rising (map (λ x. x.id) (filter p list)) → Rising (map (λ x. x.id) (cond b (s ∷ filter p list) (filter p list)))
    by true behind = (r.0, above_passing s.id p list r.1 r.2, behind)
    by false behind = behind

pub found_ids : (homes : Homes) (parts : List (List Subscription)) (live : List Subscription) (test : Way → Bool) → AreShared homes parts [] live →
    Rising (map (λ s. s.id) live) → (ids : List ℕ) → Rising ids → ((id : ℕ) → has ids id ≡ passes_at_home homes test 1 parts id) → ids ≡ ids_where test live
found_ids homes parts live test shared rising ids r h =
    rising_same ids (ids_where test live) r (rising_passing (λ s. test s.filter) live rising) (λ id. h id ∙ found homes parts live test shared id)

-- What is at home at a number, when an id has lost its home: what was, without the id.
taken_from : (homes : Homes) (n id : ℕ) (list : List Subscription) → 0 < n → at_home (without_home id homes) n list ≡ others id (at_home homes n list)
taken_from homes n id list some =
    filter_agree (λ s. without_home id homes s.id == n) (λ s. homes s.id == n && not (s.id == id)) (λ s. by (homes s.id) (s.id == id)) list
    ∙ sym (twice (λ s. not (s.id == id)) (λ s. homes s.id == n) list)
  where
    by : (home : ℕ) (b : Bool) → ((if b then 0 else home) == n) ≡ (home == n && not b)
    by home true = ne_eqb 0 n (λ e. absurd (omega arith)) ∙ never (home == n)
      where
        never : (b : Bool) → false ≡ (b && false)
        never true = refl
        never false = refl
    by home false = whole (home == n)
      where
        whole : (b : Bool) → b ≡ (b && true)
        whole true = refl
        whole false = refl

others_first : (homes : Homes) (n id : ℕ) (list : List Subscription) → others id (at_home homes n list) ≡ at_home homes n (others id list)
others_first homes n id list =
    twice (λ s. not (s.id == id)) (λ s. homes s.id == n) list
    ∙ filter_agree (λ s. homes s.id == n && not (s.id == id)) (λ s. not (s.id == id) && homes s.id == n) (λ s. turned (homes s.id == n) (not (s.id == id))) list
    ∙ sym (twice (λ s. homes s.id == n) (λ s. not (s.id == id)) list)
  where
    turned : (a b : Bool) → (a && b) ≡ (b && a)
    turned true true = refl
    turned true false = refl
    turned false true = refl
    turned false false = refl

changed_at_home : (homes : Homes) (n id : ℕ) (parts : List (List Subscription)) (before after : List Subscription) → 0 < n → others id after ≡ others id before →
    AreLiveAtHome homes n parts before → AreLiveAtHome (without_home id homes) n parts after
changed_at_home homes n id [] before after some same h = tt
changed_at_home homes n id (part ∷ parts) before after some same h = (
  taken_from homes n id part some ∙ ap (others id) h.0 ∙ others_first homes n id before ∙ ap (at_home homes n) (sym same) ∙ sym (others_first homes n id after) ∙ sym (taken_from homes n id after some),
  changed_at_home homes (n + 1) id parts before after (omega arith) same h.1,
)

-- what is known of the others, and of those with the id, is known of all
all_with : (P Q : Subscription → Type 0) (id : ℕ) (list : List Subscription) → ((s : Subscription) → (s.id == id) ≡ true → Q s) → ((s : Subscription) → (s.id == id) ≡ false → P s → Q s) →
    All P (others id list) → All Q list
all_with P Q id [] one other h = All-nil Q
all_with P Q id (s ∷ list) one other h = by (s.id == id) refl h (all_with P Q id list one other)
  where
    by : (b : Bool) → (s.id == id) ≡ b → All P (cond (not b) (s ∷ others id list) (others id list)) → (All P (others id list) → All Q list) → All Q (s ∷ list)
    by true e h behind = All-cons Q s list (one s e) (behind h)
    by false e h behind = All-cons Q s list (other s e (All-head P s (others id list) h)) (behind (All-tail P s (others id list) h))

has_last : (ids : List ℕ) (id q : ℕ) → (q == id) ≡ true → has (ids ++ id ∷ []) q ≡ true
has_last [] id q e = or_left (nat_eq id q) false (eq-eqb id q (sym (eqb-true q id e)))
has_last (x ∷ ids) id q e = or_right (nat_eq x q) (has (ids ++ id ∷ []) q) (has_last ids id q e)

has_more : (ids : List ℕ) (id q : ℕ) → has ids q ≡ true → has (ids ++ id ∷ []) q ≡ true
has_more [] id q h = cc
has_more (x ∷ ids) id q h = by (nat_eq x q) h (has_more ids id q)
  where
    by : (b : Bool) → (b || has ids q) ≡ true → (has ids q ≡ true → has (ids ++ id ∷ []) q ≡ true) → (b || has (ids ++ id ∷ []) q) ≡ true
    by true h behind = refl
    by false h behind = behind h

pub changed : (homes : Homes) (parts : List (List Subscription)) (waiting : List ℕ) (before after : List Subscription) (id : ℕ) →
    AreShared homes parts waiting before → others id after ≡ others id before → AreShared (without_home id homes) parts (waiting ++ id ∷ []) after
changed homes parts waiting before after id shared same =
    record {
      at_home = changed_at_home homes 1 id parts before after (omega arith) same shared.at_home;
      all = all_with (HasHome homes (length parts) waiting) (HasHome (without_home id homes) (length parts) (waiting ++ id ∷ [])) id after at_it beside
          (All-same (HasHome homes (length parts) waiting) (others id after) (others id before) same
          (All-filter (λ s. not (s.id == id)) (HasHome homes (length parts) waiting) before shared.all));
    }
  where
    at_it : (s : Subscription) → (s.id == id) ≡ true → HasHome (without_home id homes) (length parts) (waiting ++ id ∷ []) s
    at_it s e = record {
      within = rw e (omega arith);
      waits = λ _. has_last waiting id s.id e;
    }

    beside : (s : Subscription) → (s.id == id) ≡ false → HasHome homes (length parts) waiting s → HasHome (without_home id homes) (length parts) (waiting ++ id ∷ []) s
    beside s e h = record {
      within = rw e h.within;
      waits = λ none. has_more waiting id s.id (h.waits (rw e at none));
    }

-- What is at home at a number below that to which some move: what was, without those.
moved_from : (homes : Homes) (ids : List ℕ) (top n : ℕ) (list : List Subscription) → n < top →
    at_home (moved ids top homes) n list ≡ filter (λ s. not (has ids s.id)) (at_home homes n list)
moved_from homes ids top n list below =
    filter_agree (λ s. moved ids top homes s.id == n) (λ s. homes s.id == n && not (has ids s.id)) (λ s. by (homes s.id) (has ids s.id)) list
    ∙ sym (twice (λ s. not (has ids s.id)) (λ s. homes s.id == n) list)
  where
    by : (home : ℕ) (b : Bool) → ((if b then top else home) == n) ≡ (home == n && not b)
    by home true = ne_eqb top n (λ e. absurd (omega arith)) ∙ never (home == n)
      where
        never : (b : Bool) → false ≡ (b && false)
        never true = refl
        never false = refl
    by home false = whole (home == n)
      where
        whole : (b : Bool) → b ≡ (b && true)
        whole true = refl
        whole false = refl

moved_to : (homes : Homes) (ids : List ℕ) (kept top : ℕ) (live : List Subscription) → top ≡ kept + 1 → All (IsGathered homes kept ids) live →
    at_home (moved ids top homes) top (among ids live) ≡ at_home (moved ids top homes) top live
moved_to homes ids kept top live one all =
    twice (λ s. moved ids top homes s.id == top) (λ s. has ids s.id) live
    ∙ agree_on (λ s. has ids s.id && moved ids top homes s.id == top) (λ s. moved ids top homes s.id == top) live
    (All-weaker (IsGathered homes kept ids) (λ s. (has ids s.id && moved ids top homes s.id == top) ≡ (moved ids top homes s.id == top))
    (λ s g. by (homes s.id) (has ids s.id) g.behind) live all)
  where
    by : (home : ℕ) (b : Bool) → (kept < home → IsTrue b) → (b && ((if b then top else home) == top)) ≡ ((if b then top else home) == top)
    by home true behind = refl
    by home false behind = sym (ne_eqb home top (λ e. absurd (no (behind (omega arith)))))
      where
        no : IsTrue false → ⊥
        no e = cc

moved_at_home : (homes : Homes) (ids : List ℕ) (kept n : ℕ) (older younger : List (List Subscription)) (live : List Subscription) → n + length older ≡ kept + 1 →
    All (IsGathered homes kept ids) live → AreLiveAtHome homes n (older ++ younger) live → AreLiveAtHome (moved ids (kept + 1) homes) n (older ++ among ids live ∷ []) live
moved_at_home homes ids kept n [] younger live e all h =
    let same : n ≡ kept + 1 = omega arith in
    let P : ℕ → Type 0 = λ m. at_home (moved ids (kept + 1) homes) m (among ids live) ≡ at_home (moved ids (kept + 1) homes) m live in
    (subst P (sym same) (moved_to homes ids kept (kept + 1) live refl all), tt)
moved_at_home homes ids kept n (part ∷ older) younger live e all h = (
  moved_from homes ids (kept + 1) n part (omega arith) ∙ ap (filter (λ s. not (has ids s.id))) h.0 ∙ sym (moved_from homes ids (kept + 1) n live (omega arith)),
  moved_at_home homes ids kept (n + 1) older younger live (omega arith) all h.1,
)

pub gathered : (homes : Homes) (older younger : List (List Subscription)) (waiting ids : List ℕ) (live : List Subscription) → AreShared homes (older ++ younger) waiting live →
    All (IsGathered homes (length older) ids) live → AreShared (moved ids (length older + 1) homes) (older ++ among ids live ∷ []) [] live
gathered homes older younger waiting ids live shared all =
    record {
      at_home = moved_at_home homes ids (length older) 1 older younger live (omega arith) all shared.at_home;
      all = All-weaker (IsGathered homes (length older) ids) (HasHome (moved ids (length older + 1) homes) (length (older ++ among ids live ∷ [])) [])
          (λ s g. housed s g) live all;
    }
  where
    housed : (s : Subscription) → IsGathered homes (length older) ids s → HasHome (moved ids (length older + 1) homes) (length (older ++ among ids live ∷ [])) [] s
    housed s g = let many = length-append older (among ids live ∷ []) in record {
      within = within (homes s.id) (has ids s.id) g.behind many;
      waits = λ none. absurd (homeless (homes s.id) (has ids s.id) g.waiting none);
    }
      where
        within : (home : ℕ) (b : Bool) → (length older < home → IsTrue b) → length (older ++ among ids live ∷ []) ≡ length older + 1 →
            (if b then length older + 1 else home) ≤ length (older ++ among ids live ∷ [])
        within home true behind many = omega arith
        within home false behind many = by (cases_lt (length older) home)
          where
            by : (length older < home) ⊎ (home ≤ length older) → home ≤ length (older ++ among ids live ∷ [])
            by (inl l) = absurd (no (behind l))
              where
                no : IsTrue false → ⊥
                no e = cc
            by (inr l) = omega arith

        homeless : (home : ℕ) (b : Bool) → (home ≡ 0 → IsTrue b) → (if b then length older + 1 else home) ≡ 0 → ⊥
        homeless home true waiting none = omega arith
        homeless home false waiting none = let e = waiting none in cc
