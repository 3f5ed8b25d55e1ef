-- The ids of the live filters rise, and none is above the version.
use Rattle.std.proofs.Common.{◌≡◌, ℕ, ◌+◌, ◌<◌, ◌≤◌, Bool, true, false, cond, List, [], ◌∷◌, ◌++◌, length, length-append, map, refl, sym, subst, inl, inr, arith, if◌then◌else◌}
use Rattle.std.specs.Prelude.{filter, ◌==◌}
use Rattle.std.proofs.lemmas.Bool.Decides.{eqb_tells}
use Rattle.px_text.specs.Sets.{Above, Rising}
use Rattle.px_xpath.specs.Filters.{Way}
use Rattle.px_xpath.specs.Histories.{Change, Adds, Drops, Replaces, Subscription, after, live, live_from, IsLegal}

-- the ids rise from above one number up to another
abbrev Climbs : (low : ℕ) → List Subscription → (high : ℕ) → Type 0
Climbs low [] high = Unit {0}
Climbs low (s ∷ rest) high = (low < s.id) × (s.id ≤ high) × Climbs s.id rest high

climbs_push : (low : ℕ) (l : List Subscription) (high : ℕ) (filter : Way) → low ≤ high → Climbs low l high →
    Climbs low (l ++ record { id = high + 1; filter = filter } ∷ []) (high + 1)
climbs_push low [] high filter h c = (omega arith, omega arith, tt)
climbs_push low (s ∷ rest) high filter h c =
    let below = c.1 in (c.0, omega (arith, below), climbs_push s.id rest high filter below c.2)

climbs_wider : (low : ℕ) (l : List Subscription) (high : ℕ) → Climbs low l high → Climbs low l (high + 1)
climbs_wider low [] high c = tt
climbs_wider low (s ∷ rest) high c = let below = c.1 in (c.0, omega (arith, below), climbs_wider s.id rest high c.2)

climbs_lower : (low less : ℕ) (l : List Subscription) (high : ℕ) → less ≤ low → Climbs low l high → Climbs less l high
climbs_lower low less [] high h c = tt
climbs_lower low less (s ∷ rest) high h c = let above = c.0 in (omega (arith, above), c.1, c.2)

climbs_kept : (test : Bool) (low : ℕ) (s : Subscription) (rest : List Subscription) (high : ℕ) → low < s.id → s.id ≤ high → Climbs s.id rest high →
    Climbs low (cond test (s ∷ rest) rest) high
climbs_kept true low s rest high a b c = (a, b, c)
climbs_kept false low s rest high a b c = climbs_lower s.id low rest high (omega (arith, a)) c

climbs_filter : (test : Subscription → Bool) (low : ℕ) (l : List Subscription) (high : ℕ) → Climbs low l high → Climbs low (filter test l) high
climbs_filter test low [] high c = tt
climbs_filter test low (s ∷ rest) high c = climbs_kept (test s) low s (filter test rest) high c.0 c.1 (climbs_filter test s.id rest high c.2)

abbrev exchange : (id : ℕ) → Way → Subscription → Subscription
exchange id new s = if s.id == id then record { id = id; filter = new } else s

same_id : (id : ℕ) (new : Way) (s : Subscription) → (exchange id new s).id ≡ s.id
same_id id new s = elim (eqb_tells s.id id) [ inl same ↦ rw same.0 (sym same.1) | inr other ↦ rw other.0 refl ]

climbs_exchange : (id : ℕ) (new : Way) (low : ℕ) (l : List Subscription) (high : ℕ) → Climbs low l high → Climbs low (map (exchange id new) l) high
climbs_exchange id new low [] high c = tt
climbs_exchange id new low (s ∷ rest) high c =
    let e = sym (same_id id new s) in
    let P : ℕ → Type 0 = λ n. (low < n) × (n ≤ high) × Climbs n (map (exchange id new) rest) high in
    subst P e (c.0, c.1, climbs_exchange id new s.id rest high c.2)

climbs_after : (version : ℕ) (l : List Subscription) (change : Change) → Climbs 0 l version → Climbs 0 (after (version + 1) l change) (version + 1)
climbs_after version l (Adds who filter) c = climbs_push 0 l version filter (omega arith) c
climbs_after version l (Drops who id) c = climbs_wider 0 _ version (climbs_filter _ 0 l version c)
climbs_after version l (Replaces who id new) c = climbs_wider 0 _ version (climbs_exchange id new 0 l version c)

climbs_live : (version : ℕ) (l : List Subscription) (changes : List Change) (n : ℕ) → n ≡ version + length changes → Climbs 0 l version →
    Climbs 0 (live_from version l changes) n
climbs_live version l [] n e c = let same : version ≡ n = omega arith in let P : ℕ → Type 0 = λ m. Climbs 0 l m in subst P same c
climbs_live version l (x ∷ changes) n e c =
    climbs_live (version + 1) (after (version + 1) l x) changes n (omega arith) (climbs_after version l x c)

abbrev ids : List Subscription → List ℕ
ids = map (λ s. s.id)

above_first : (low : ℕ) (l : List Subscription) (high : ℕ) → Climbs low l high → Above low (ids l)
above_first low [] high c = tt
above_first low (s ∷ rest) high c = c.0

rising : (low : ℕ) (l : List Subscription) (high : ℕ) → high ≤ 1_048_575 → Climbs low l high → Rising (ids l)
rising low [] high h c = tt
rising low (s ∷ rest) high h c = let below = c.1 in (omega (arith, below), above_first s.id rest high c.2, rising s.id rest high h c.2)

-- the ids of a legal history's live filters rise, and are below 2^20
pub live-rising : (history : List Change) → IsLegal history → Rising (map (λ s. s.id) (live history))
live-rising history legal = rising 0 (live history) (length history) legal.1 (climbs_live 0 [] history (length history) (omega arith) tt)

above_then : (low : ℕ) (l : List Subscription) (high : ℕ) → low < high + 1 → Climbs low l high → Above low (ids l ++ (high + 1) ∷ [])
above_then low [] high h c = h
above_then low (s ∷ rest) high h c = c.0

rising_then : (low : ℕ) (l : List Subscription) (high : ℕ) → high < 1_048_575 → Climbs low l high → Rising (ids l ++ (high + 1) ∷ [])
rising_then low [] high h c = (omega arith, tt, tt)
rising_then low (s ∷ rest) high h c =
    let below = c.1 in (omega (arith, below), above_then s.id rest high (omega (arith, below)) c.2, rising_then s.id rest high h c.2)

-- and the version of a change that may come next is above them
pub next-rising : (history : List Change) (change : Change) → IsLegal (history ++ change ∷ []) → Rising (map (λ s. s.id) (live history) ++ (length history + 1) ∷ [])
next-rising history change legal =
    let longer = length-append history (change ∷ []) in
    let few = legal.1 in
    rising_then 0 (live history) (length history) (omega (arith, longer, few)) (climbs_live 0 [] history (length history) (omega arith) tt)
