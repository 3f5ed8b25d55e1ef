-- Live filters that are shared out among several lists, in which others stand too that are no longer live as they are there.
use Rattle.std.specs.Prelude.{◌≡◌, ℕ, ◌+◌, ◌<◌, ◌≤◌, Bool, false, not, ◌&&◌, ◌||◌, ◌==◌, All, List, [], ◌∷◌, length, map, filter, IsTrue, if◌then◌else◌}
use Rattle.px_text.specs.Sets.{has}
use Rattle.px_xpath.specs.Filters.{Way}
use Rattle.px_xpath.specs.Histories.{Subscription}

-- Where the filter of an id stands as it is live: the number of the list, from 1 on. Number 0 is none.
abbrev pub Homes : Type 0
Homes = ℕ → ℕ

-- those of a list whose ids are at home under this number
abbrev pub at_home : Homes → (n : ℕ) → List Subscription → List Subscription
at_home homes n = filter (λ s. homes s.id == n)

-- From this number on each list has, of the ids that are at home in it, exactly the live ones, each with its live filter.
abbrev pub AreLiveAtHome : Homes → (n : ℕ) → (parts : List (List Subscription)) → (live : List Subscription) → Type 0
AreLiveAtHome homes n [] live = Unit {0}
AreLiveAtHome homes n (part ∷ parts) live = (at_home homes n part ≡ at_home homes n live) × AreLiveAtHome homes (n + 1) parts live

-- it has a home among so many lists, or waits for one
pub record HasHome (homes : Homes) (many : ℕ) (waiting : List ℕ) (s : Subscription) : Type 0 where
  pub within : homes s.id ≤ many
  pub waits : homes s.id ≡ 0 → IsTrue (has waiting s.id)

-- The live filters are shared out among the lists, but for those that wait.
pub record AreShared (homes : Homes) (parts : List (List Subscription)) (waiting : List ℕ) (live : List Subscription) : Type 0 where
  pub at_home : AreLiveAtHome homes 1 parts live
  pub all : All (HasHome homes (length parts) waiting) live

-- the ids of those whose filter passes a test, in the order of the list
abbrev pub ids_where : (Way → Bool) → List Subscription → List ℕ
ids_where test list = map (λ s. s.id) (filter (λ s. test s.filter) list)

-- whether the id passes in the list in which it is at home
abbrev pub passes_at_home : Homes → (Way → Bool) → (n : ℕ) → (parts : List (List Subscription)) → (id : ℕ) → Bool
passes_at_home homes test n [] id = false
passes_at_home homes test n (part ∷ parts) id = (homes id == n && has (ids_where test part) id) || passes_at_home homes test (n + 1) parts id

-- those of a list but the one of an id
abbrev pub others : (id : ℕ) → List Subscription → List Subscription
others id = filter (λ s. not (s.id == id))

-- the homes when an id has lost its own
abbrev pub without_home : (id : ℕ) → Homes → Homes
without_home id homes = λ q. if q == id then 0 else homes q

-- the homes when these ids have moved to the list of a number
abbrev pub moved : (ids : List ℕ) → (n : ℕ) → Homes → Homes
moved ids n homes = λ q. if has ids q then n else homes q

-- those of a list that have one of these ids
abbrev pub among : (ids : List ℕ) → List Subscription → List Subscription
among ids = filter (λ s. has ids s.id)

-- Whoever waits, or is at home behind so many lists, has one of these ids.
pub record IsGathered (homes : Homes) (kept : ℕ) (ids : List ℕ) (s : Subscription) : Type 0 where
  pub waiting : homes s.id ≡ 0 → IsTrue (has ids s.id)
  pub behind : kept < homes s.id → IsTrue (has ids s.id)
