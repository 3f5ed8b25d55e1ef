-- Histories that grow at their end.
use Rattle.std.proofs.Common.{◌≡◌, ℕ, ◌+◌, ◌≤◌, List, [], ◌∷◌, ◌++◌, length, refl, subst, arith, ap, sym, append-nil}
use Rattle.px_xpath.specs.Histories.{Change, Subscription, after, live, live_from, live_size, NamesLive, AllMayCome}

-- what is live behind one change more
pub live_from-grows : (version : ℕ) (before : List Subscription) (changes : List Change) (c : Change) (n : ℕ) → n ≡ version + length changes + 1 →
    live_from version before (changes ++ c ∷ []) ≡ after n (live_from version before changes) c
live_from-grows version before [] c n e = let same : version + 1 ≡ n = omega arith in ap (λ m. after m before c) same
live_from-grows version before (x ∷ changes) c n e =
    live_from-grows (version + 1) (after (version + 1) before x) changes c n (omega arith)

pub live-grows : (changes : List Change) (c : Change) → live (changes ++ c ∷ []) ≡ after (length changes + 1) (live changes) c
live-grows changes c = live_from-grows 0 [] changes c (length changes + 1) (omega arith)

-- what may come last
pub last_may_come : (version : ℕ) (before : List Subscription) (changes : List Change) (c : Change) (n : ℕ) → n ≡ version + length changes + 1 →
    AllMayCome version before (changes ++ c ∷ []) →
    NamesLive c (live_from version before changes) × (live_size (after n (live_from version before changes) c) ≤ 500_000)
last_may_come version before [] c n e h =
    let same : version + 1 ≡ n = omega arith in
    let P : ℕ → Type 0 = λ m. live_size (after m before c) ≤ 500_000 in
    (h.0, subst P same h.1)
last_may_come version before (x ∷ changes) c n e h =
    last_may_come (version + 1) (after (version + 1) before x) changes c n (omega arith) h.2

-- a change that may come last
pub may_come_last : (version : ℕ) (before : List Subscription) (changes : List Change) (c : Change) (n : ℕ) → n ≡ version + length changes + 1 →
    AllMayCome version before changes → NamesLive c (live_from version before changes) →
    live_size (after n (live_from version before changes) c) ≤ 500_000 → AllMayCome version before (changes ++ c ∷ [])
may_come_last version before [] c n e h names small =
    let same : n ≡ version + 1 = omega arith in
    let P : ℕ → Type 0 = λ m. live_size (after m before c) ≤ 500_000 in
    (names, subst P same small, tt)
may_come_last version before (x ∷ changes) c n e h names small =
    (h.0, h.1, may_come_last (version + 1) (after (version + 1) before x) changes c n (omega arith) h.2 names small)

-- the sizes never exceed their limit
pub stays_small : (version : ℕ) (before : List Subscription) (changes : List Change) → live_size before ≤ 500_000 → AllMayCome version before changes →
    live_size (live_from version before changes) ≤ 500_000
stays_small version before [] small h = small
stays_small version before (x ∷ changes) small h = stays_small (version + 1) (after (version + 1) before x) changes h.1 h.2
