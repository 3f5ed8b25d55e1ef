-- Tiers that stand for live filters, through a change, a new tier and a document.
use Rattle.std.proofs.Common.{◌≡◌, ◌≢◌, ℕ, zero, suc, ◌+◌, ◌-◌, ◌<◌, ◌≤◌, Bool, true, false, ◌&&◌, ◌||◌, List, [], ◌∷◌, ◌++◌, length, map, take, drop, set, get_or, refl, sym, ap, ◌∙◌, subst, arith, eqb, if◌then◌else◌, ◌⊎◌, inl, inr, Result, Ok, Err, IfOk, OnOk}
use Rattle.std.specs.Prelude.{All, ◌==◌}
use Rattle.std.specs.List.{AllZip}
use Rattle.std.proofs.Math.Path.{fun_ext}
use Rattle.std.proofs.lemmas.Bool.{ne_eqb}
use Rattle.std.proofs.lemmas.Bool.Decides.{eqb_tells}
use Rattle.std.proofs.lemmas.List.{length-take-le, length-drop, take-append-drop, take_all, take_rest}
use Rattle.std.proofs.lemmas.List.Elements.{All-head, All-tail, All-more, All-same, All-weaker}
use Rattle.std.proofs.lemmas.Slice.Zip.{AllZip-long}
use Rattle.px_text.specs.Nodes.{Root}
use Rattle.px_text.specs.Sets.{has, Rising}
use Rattle.px_reader.specs.Spelling.{events_of}
use Rattle.px_reader.specs.declared.event.Event.{Event}
use Rattle.px_xpath.specs.declared.numbered.Numbered.{Numbered}
use Rattle.px_xpath.specs.Meaning.{holds}
use Rattle.px_xpath.specs.Subscribed.{subscriptions}
use Rattle.px_xpath.specs.Filters.{Way}
use Rattle.px_xpath.specs.Histories.{Subscription, IsLive, live_size}
use Rattle.px_afa.specs.Sound.{AreRising, AreLive}
use Rattle.px_step.proofs.RisingNumbers.{rising_equal}
use Rattle.px_tiers.specs.declared.tier.Tier.{Tier}
use Rattle.px_tiers.specs.declared.tiers.Tiers.{Tiers}
use Rattle.px_machine.specs.Machines.{bound_of}
use Rattle.px_tiers.specs.Bytes.{halved, AreBounded, IsWithin, remembered}
use Rattle.px_tiers.specs.HomeTables.{home_of}
use Rattle.px_tiers.specs.Parts.{Homes, AreLiveAtHome, HasHome, AreShared, IsGathered, ids_where, passes_at_home, others, moved, among}
use Rattle.px_tiers.specs.Standings.{IsTier, StandFor, AreSettled, AreTaken}
use Rattle.px_tiers.proofs.Collecting.{among_size, ids_there, own_found, own_listed, dropped_at_home}
use Rattle.px_tiers.proofs.Remembering.{bounded_put, bounded_sum}
use Rattle.px_tiers.proofs.Shared.{found, changed, gathered, rising_passing}

-- which machines there are
dropped_machines : (kept : ℕ) (tiers : List Tier) (parts : List (List Subscription)) → AllZip IsTier tiers parts → AllZip IsTier (drop kept tiers) (drop kept parts)
dropped_machines zero tiers parts h = h
dropped_machines (suc kept) [] [] h = h
dropped_machines (suc kept) (t ∷ tiers) (p ∷ parts) h = dropped_machines kept tiers parts h.1
dropped_machines (suc kept) [] (p ∷ parts) h = absurd h
dropped_machines (suc kept) (t ∷ tiers) [] h = absurd h

replaced_machines : (kept : ℕ) (tiers : List Tier) (parts : List (List Subscription)) (tier : Tier) (part : List Subscription) → AllZip IsTier tiers parts → IsTier tier part →
    AllZip IsTier (take kept tiers ++ tier ∷ []) (take kept parts ++ part ∷ [])
replaced_machines zero tiers parts tier part h is = (is, tt)
replaced_machines (suc kept) [] [] tier part h is = (is, tt)
replaced_machines (suc kept) (t ∷ tiers) (p ∷ parts) tier part h is = (h.0, replaced_machines kept tiers parts tier part h.1 is)
replaced_machines (suc kept) [] (p ∷ parts) tier part h is = absurd h
replaced_machines (suc kept) (t ∷ tiers) [] tier part h is = absurd h

pub taken_next : (homes : Homes) (kept : ℕ) (tiers : List Tier) (before after : List ℕ) (i : ℕ) (tier : Tier) → i < length tiers → tier ≡ get_or tiers i tier → All (AreTaken homes kept before) (take i tiers) →
    ((q : ℕ) → has before q ≡ true → has after q ≡ true) → AreTaken homes kept after tier → All (AreTaken homes kept after) (take (i + 1) tiers)
taken_next homes kept tiers before after i tier lt at all more here =
    All-more (AreTaken homes kept after) tiers i tier lt
    (All-weaker (AreTaken homes kept before) (AreTaken homes kept after) (λ t h q there behind. more q (h q there behind)) (take i tiers) all)
    (subst (AreTaken homes kept after) at here)

in_younger : (homes : Homes) (n kept : ℕ) (tiers : List Tier) (parts : List (List Subscription)) (live : List Subscription) (gathered : List ℕ) (q : ℕ) →
    AllZip IsTier tiers parts → AreLiveAtHome homes n parts live → has (map (λ s. s.id) live) q ≡ true → n ≤ homes q → homes q < n + length parts → kept < homes q →
    All (AreTaken homes kept gathered) tiers → has gathered q ≡ true
in_younger homes n kept [] [] live gathered q zip at listed low high behind all = absurd (omega arith)
in_younger homes n kept [] (p ∷ parts) live gathered q zip at listed low high behind all = absurd zip
in_younger homes n kept (t ∷ tiers) [] live gathered q zip at listed low high behind all = absurd zip
in_younger homes n kept (t ∷ tiers) (p ∷ parts) live gathered q zip at listed low high behind all =
    by (eqb_tells (homes q) n) (λ other. in_younger homes (n + 1) kept tiers parts live gathered q zip.1 at.1 listed (omega arith) (omega arith) behind (All-tail (AreTaken homes kept gathered) t tiers all))
  where
    by : ((eqb (homes q) n ≡ true) × (homes q ≡ n)) ⊎ ((eqb (homes q) n ≡ false) × (homes q ≢ n)) → (homes q ≢ n → has gathered q ≡ true) → has gathered q ≡ true
    by (inl e) rest =
        let is = zip.0 in
        let there : has t.ids.items q ≡ true = ap (λ (ids : List ℕ). has ids q) is.ids ∙ sym (ids_there homes n p live q at.0 e.1) ∙ listed in
        All-head (AreTaken homes kept gathered) t tiers all q there behind
    by (inr e) rest = rest e.1

-- Those that wait, and those of the tiers that do not stay, are all gathered.
pub are_gathered : (tiers : Tiers) (live : List Subscription) → StandFor tiers live → (kept : ℕ) (fresh all ids : List ℕ) →
    ((q : ℕ) → has tiers.waiting.items q ≡ true → IsLive q live → has fresh q ≡ true) → ((q : ℕ) → has fresh q ≡ true → has all q ≡ true) →
    All (AreTaken (home_of tiers.homes) kept all) (drop kept tiers.tiers.items) → ((q : ℕ) → has ids q ≡ has all q) →
    kept ≤ length tiers.tiers.items → All (IsGathered (home_of tiers.homes) kept ids) live
are_gathered tiers live stand kept fresh all ids fresh_has all_has taken same within = λ k d lt.
    by (get_or live k d) (own_found live k d lt) (own_listed live k d lt) (stand.shared.all k d lt)
  where
    homes : Homes
    homes = home_of tiers.homes

    by : (s : Subscription) → IsLive s.id live → has (map (λ x. x.id) live) s.id ≡ true → HasHome (home_of tiers.homes) (length stand.parts) tiers.waiting.items s → IsGathered (home_of tiers.homes) kept ids s
    by s found listed housed = record {
      waiting = λ none. same s.id ∙ all_has s.id (fresh_has s.id (housed.waits none) found);
      behind = λ behind. same s.id
          ∙ in_younger (home_of tiers.homes) (kept + 1) kept (drop kept tiers.tiers.items) (drop kept stand.parts) live all s.id (dropped_machines kept tiers.tiers.items stand.parts stand.machines)
          (dropped_at_home (home_of tiers.homes) kept 1 (kept + 1) stand.parts live (omega arith) stand.shared.at_home) listed (omega arith)
          (let many = AllZip-long IsTier tiers.tiers.items stand.parts stand.machines in let rest = length-drop kept stand.parts in let most = housed.within in omega arith) behind taken;
    }

-- A new tier stands behind those that stay.
pub rebuilt : (old new : Tiers) (live : List Subscription) → StandFor old live → (kept n : ℕ) (ids : List ℕ) (tier : Tier) (part : List Subscription) → kept ≤ length old.tiers.items → n ≡ kept + 1 →
    All (IsGathered (home_of old.homes) kept ids) live → IsTier tier part → bound_of tier.machine ≡ halved 134_217_728 n → part ≡ among ids live → ((q : ℕ) → home_of new.homes q ≡ moved ids n (home_of old.homes) q) →
    new.tiers.items ≡ take kept old.tiers.items ++ tier ∷ [] → new.waiting.items ≡ [] → AreSettled new live
rebuilt old new live stand kept n ids tier part within number all is share part_is homes tiers none =
    record {
      stand = record {
        parts = take kept stand.parts ++ part ∷ [];
        machines = let P : List Tier → Type 0 = λ ts. AllZip IsTier ts (take kept stand.parts ++ part ∷ []) in
            subst P (sym tiers) (replaced_machines kept old.tiers.items stand.parts tier part stand.machines is);
        shared = on (home_of new.homes) part new.waiting.items (sym (fun_ext homes)) (sym part_is) (sym none);
        bounded =
            let P : List Tier → Type 0 = λ ts. AreBounded 134_217_728 ts in
            let share_there : bound_of tier.machine ≡ halved 134_217_728 (suc kept) = share ∙ ap (halved 134_217_728) (let e : n ≡ suc kept = omega arith in e) in
            subst P (sym tiers) (bounded_put 134_217_728 kept old.tiers.items tier within share_there stand.bounded);
      };
      none_waits = none;
    }
  where
    many : length (take kept stand.parts) ≡ kept
    many = let long = AllZip-long IsTier old.tiers.items stand.parts stand.machines in length-take-le kept stand.parts (omega arith)

    moving : AreShared (moved ids (length (take kept stand.parts) + 1) (home_of old.homes)) (take kept stand.parts ++ among ids live ∷ []) [] live
    moving =
        let P : List (List Subscription) → Type 0 = λ ps. AreShared (home_of old.homes) ps old.waiting.items live in
        let Q : ℕ → Type 0 = λ m. All (IsGathered (home_of old.homes) m ids) live in
        gathered (home_of old.homes) (take kept stand.parts) (drop kept stand.parts) old.waiting.items ids live (subst P (sym (take-append-drop kept stand.parts)) stand.shared) (subst Q (sym many) all)

    on : (homes : Homes) (last : List Subscription) (waiting : List ℕ) → moved ids n (home_of old.homes) ≡ homes → among ids live ≡ last → [] ≡ waiting → AreShared homes (take kept stand.parts ++ last ∷ []) waiting live
    on homes last waiting same lasts waits =
        let e : length (take kept stand.parts) + 1 ≡ n = let m = many in omega arith in
        let A : ℕ → Type 0 = λ m. AreShared (moved ids m (home_of old.homes)) (take kept stand.parts ++ among ids live ∷ []) [] live in
        let B : Homes → Type 0 = λ h. AreShared h (take kept stand.parts ++ among ids live ∷ []) [] live in
        let C : List Subscription → Type 0 = λ l. AreShared homes (take kept stand.parts ++ l ∷ []) [] live in
        let D : List ℕ → Type 0 = λ w. AreShared homes (take kept stand.parts ++ last ∷ []) w live in
        subst D waits (subst C lasts (subst B same (subst A e moving)))

-- An id has lost its home, and waits.
pub changed_stand : (old new : Tiers) (id : ℕ) → new.tiers.items ≡ old.tiers.items → ((q : ℕ) → home_of new.homes q ≡ if q == id then 0 else home_of old.homes q) →
    new.waiting.items ≡ old.waiting.items ++ id ∷ [] → (before after : List Subscription) → StandFor old before → others id after ≡ others id before → StandFor new after
changed_stand old new id tiers homes waiting before after stand same =
    record {
      parts = stand.parts;
      machines = let P : List Tier → Type 0 = λ ts. AllZip IsTier ts stand.parts in subst P (sym tiers) stand.machines;
      shared =
          let P : Homes → Type 0 = λ h. AreShared h stand.parts (old.waiting.items ++ id ∷ []) after in
          let Q : List ℕ → Type 0 = λ w. AreShared (home_of new.homes) stand.parts w after in
          subst Q (sym waiting) (subst P (sym (fun_ext homes)) (changed (home_of old.homes) stand.parts old.waiting.items before after id stand.shared same));
      bounded = let P : List Tier → Type 0 = λ ts. AreBounded 134_217_728 ts in subst P (sym tiers) stand.bounded;
    }

-- Whoever waits is no longer live.
pub none_left : (old new : Tiers) (live : List Subscription) (fresh : List ℕ) → StandFor old live → new.tiers.items ≡ old.tiers.items → new.homes ≡ old.homes → new.waiting.items ≡ [] →
    ((q : ℕ) → has old.waiting.items q ≡ true → IsLive q live → has fresh q ≡ true) → fresh ≡ [] → AreSettled new live
none_left old new live fresh stand tiers homes none fresh_has empty =
    record {
      stand = record {
        parts = stand.parts;
        machines = let P : List Tier → Type 0 = λ ts. AllZip IsTier ts stand.parts in subst P (sym tiers) stand.machines;
        shared =
            let P : List ℕ → Type 0 = λ h. AreShared (home_of h) stand.parts [] live in
            let Q : List ℕ → Type 0 = λ w. AreShared (home_of new.homes) stand.parts w live in
            subst Q (sym none) (subst P (sym homes) (record { at_home = stand.shared.at_home; all = λ k d lt. by (get_or live k d) (own_found live k d lt) (stand.shared.all k d lt) }));
        bounded = let P : List Tier → Type 0 = λ ts. AreBounded 134_217_728 ts in subst P (sym tiers) stand.bounded;
      };
      none_waits = none;
    }
  where
    by : (s : Subscription) → IsLive s.id live → HasHome (home_of old.homes) (length stand.parts) old.waiting.items s → HasHome (home_of old.homes) (length stand.parts) [] s
    by s found housed = record {
      within = housed.within;
      waits = λ home. ap (λ (ids : List ℕ). has ids s.id) (sym empty) ∙ fresh_has s.id (housed.waits home) found;
    }

rises : (ids : List ℕ) → Rising ids → AreRising ids
rises [] h = h
rises (id ∷ ids) h = (h.1, rises ids h.2)

-- what the tiers find is what is live and passes
pub settled_find : (tiers : Tiers) (live : List Subscription) (test : Way → Bool) (some ids : List ℕ) → AreSettled tiers live → Rising (map (λ s. s.id) live) →
    ((parts : List (List Subscription)) → AllZip IsTier tiers.tiers.items parts → (q : ℕ) → has some q ≡ passes_at_home (home_of tiers.homes) test 1 parts q) →
    AreRising ids → ((q : ℕ) → has ids q ≡ has some q) → ids ≡ ids_where test live
settled_find tiers live test some ids settled rising finds up same =
    let stand = settled.stand in
    let P : List ℕ → Type 0 = λ w. AreShared (home_of tiers.homes) stand.parts w live in
    let shared = subst P settled.none_waits stand.shared in
    rising_equal ids (ids_where test live) up (rises (ids_where test live) (rising_passing (λ s. test s.filter) live rising))
    (λ q. same q ∙ finds stand.parts stand.machines q ∙ found (home_of tiers.homes) stand.parts live test shared q)

-- one list more, of those that an id may pass in
pub passes_more : (homes : Homes) (test : Way → Bool) (n i : ℕ) (parts : List (List Subscription)) (d : List Subscription) (q : ℕ) → i < length parts →
    passes_at_home homes test n (take (i + 1) parts) q ≡ (passes_at_home homes test n (take i parts) q || (homes q == n + i && has (ids_where test (get_or parts i d)) q))
passes_more homes test n i [] d q lt = absurd (omega arith)
passes_more homes test n zero (part ∷ parts) d q lt = last (homes q == n && has (ids_where test part) q) ∙ ap (λ (m : ℕ). homes q == m && has (ids_where test part) q) (let e : n ≡ n + 0 = omega arith in e)
  where
    last : (b : Bool) → (b || false) ≡ b
    last true = refl
    last false = refl
passes_more homes test n (suc i) (part ∷ parts) d q lt =
    let e : n + 1 + i ≡ n + suc i = omega arith in
    let front : suc i + 1 ≡ suc (i + 1) = omega arith in
    let rest = passes_more homes test (n + 1) i parts d q (omega arith) ∙ ap (λ (m : ℕ). passes_at_home homes test (n + 1) (take i parts) q || (homes q == m && has (ids_where test (get_or parts i d)) q)) e in
    ap (λ (m : ℕ). passes_at_home homes test n (take m (part ∷ parts)) q) front
    ∙ on (homes q == n && has (ids_where test part) q) (passes_at_home homes test (n + 1) (take (i + 1) parts) q) (passes_at_home homes test (n + 1) (take i parts) q)
    (homes q == n + suc i && has (ids_where test (get_or parts i d)) q) rest
  where
    on : (b c x y : Bool) → c ≡ (x || y) → (b || c) ≡ ((b || x) || y)
    on true c x y h = refl
    on false c x y h = h

-- what is known of a slice of the tiers
pub behind_taken : (homes : Homes) (kept : ℕ) (taken : List ℕ) (tiers seen : List Tier) → seen ≡ tiers → All (AreTaken homes kept taken) (take (length seen - kept) (drop kept seen)) →
    All (AreTaken homes kept taken) (drop kept tiers)
behind_taken homes kept taken tiers seen same h =
    let P : List Tier → Type 0 = λ ts. All (AreTaken homes kept taken) (drop kept ts) in
    subst P same (All-same (AreTaken homes kept taken) (drop kept seen) (take (length seen - kept) (drop kept seen)) (sym (take_rest seen kept)) h)

-- a program can be built of some of the live filters
pub among_live : (live : List Subscription) (ids : List ℕ) (filters : List Numbered) → subscriptions filters ≡ among ids live → Rising (map (λ s. s.id) live) → live_size live ≤ 500_000 → AreLive (subscriptions filters)
among_live live ids filters same rising small =
    let P : List Subscription → Type 0 = λ list. AreLive list in
    let less = among_size ids live in
    subst P (sym same) (record { ids_rise = rises (map (λ s. s.id) (among ids live)) (rising_passing (λ s. has ids s.id) live rising); few = omega arith })

-- what tiers find that stand for these filters
pub settled_matches : {E : Type 0} (tiers : Tiers) (live : List Subscription) (events : List Event) (result : Result (List ℕ) E) →
    IfOk result (λ ids. (all : List Subscription) (root : Root) → AreSettled tiers all → Rising (map (λ s. s.id) all) → events_of root ≡ events → ids ≡ ids_where (λ filter. holds filter root) all) →
    AreSettled tiers live → Rising (map (λ s. s.id) live) → IfOk result (λ ids. (root : Root) → events_of root ≡ events → ids ≡ ids_where (λ filter. holds filter root) live)
settled_matches tiers live events (Ok ids) h settled rising = λ root e. h live root settled rising e
settled_matches tiers live events (Err fault) h settled rising = tt

pub settled_stand : {A E : Type 0} (old new : Tiers) (live : List Subscription) (result : Result A E) → OnOk result ((all : List Subscription) → AreSettled old all → StandFor new all) → AreSettled old live →
    OnOk result (StandFor new live)
settled_stand old new live (Ok x) h settled = h live settled
settled_stand old new live (Err x) h settled = tt

-- what they remember behind a document
pub few_remembered : {A E : Type 0} (tiers : Tiers) (live : List Subscription) (result : Result A E) → OnOk result (StandFor tiers live) → OnOk result (All IsWithin tiers.tiers.items) →
    OnOk result (remembered tiers ≤ 134_217_728)
few_remembered tiers live (Ok x) stand within = bounded_sum 134_217_728 tiers.tiers.items stand.bounded within
few_remembered tiers live (Err x) stand within = tt

pub none_from : (ids : List ℕ) (none : Bool) → none ≡ (length ids == 0) → none ≡ true → ids ≡ []
none_from [] none e t = refl
none_from (id ∷ ids) none e t = absurd (other (ne_eqb (length (id ∷ ids)) 0 (λ f. absurd (omega arith))))
  where
    other : (length (id ∷ ids) == 0) ≡ false → ⊥
    other f = let g = sym t ∙ e ∙ f in cc

-- the machine of one place
pub machine_at : (tiers : List Tier) (parts : List (List Subscription)) (i : ℕ) (d : Tier) → AllZip IsTier tiers parts → i < length parts → IsTier (get_or tiers i d) (get_or parts i [])
machine_at [] [] i d h lt = absurd (omega arith)
machine_at [] (p ∷ parts) i d h lt = absurd h
machine_at (t ∷ tiers) [] i d h lt = absurd h
machine_at (t ∷ tiers) (p ∷ parts) zero d h lt = h.0
machine_at (t ∷ tiers) (p ∷ parts) (suc i) d h lt = machine_at tiers parts i d h.1 (omega arith)

pub machines_set : (tiers : List Tier) (parts : List (List Subscription)) (i : ℕ) (t : Tier) → AllZip IsTier tiers parts → i < length parts → IsTier t (get_or parts i []) → AllZip IsTier (set tiers i t) parts
machines_set [] [] i t h lt is = absurd (omega arith)
machines_set [] (p ∷ parts) i t h lt is = absurd h
machines_set (x ∷ tiers) [] i t h lt is = absurd h
machines_set (x ∷ tiers) (p ∷ parts) zero t h lt is = (is, h.1)
machines_set (x ∷ tiers) (p ∷ parts) (suc i) t h lt is = (h.0, machines_set tiers parts i t h.1 (omega arith) is)

-- what one tier more finds
pub found_more : (homes : Homes) (test : Way → Bool) (at : ℕ) (parts : List (List Subscription)) (ids now seen : List ℕ) (q : ℕ) → at < length parts → has ids q ≡ passes_at_home homes test 1 (take at parts) q →
    seen ≡ ids_where test (get_or parts at []) → has now q ≡ (has ids q || (homes q == at + 1 && has seen q)) → has now q ≡ passes_at_home homes test 1 (take (at + 1) parts) q
found_more homes test at parts ids now seen q lt so_far are kept =
    let number : at + 1 ≡ 1 + at = omega arith in
    kept ∙ rw (so_far, are, number) refl ∙ sym (passes_more homes test 1 at parts [] q lt)

pub found_all : (homes : Homes) (test : Way → Bool) (at : ℕ) (parts : List (List Subscription)) (ids : List ℕ) (q : ℕ) → length parts ≤ at → has ids q ≡ passes_at_home homes test 1 (take at parts) q →
    has ids q ≡ passes_at_home homes test 1 parts q
found_all homes test at parts ids q le h = h ∙ ap (λ (some : List (List Subscription)). passes_at_home homes test 1 some q) (take_all at parts le)
