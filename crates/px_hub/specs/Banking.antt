-- The banks as the desk keeps them, and in which order they are tried.
use Rattle.std.specs.Prelude.{◌≡◌, ◌≢◌, ℕ, ◌<◌, ◌⊎◌, List, map, length, slice_index, set, All, Option, Some, None}
use mathlib.Core.Option.{some}
use lib.ListN.{get_elem?}
use Rattle.px_rule.specs.declared.view.Stand.{Stand}
use Rattle.px_rule.specs.declared.view.Stay.{Stay}
use Rattle.px_rule.specs.declared.view.View.{View}
use Rattle.px_rule.specs.Words.{count_of}
use Rattle.px_rule.specs.Banks.{stand}
use Rattle.px_rule.specs.Steps.{restood}
use Rattle.px_banks.specs.declared.answers.Claim.{Claim}
use Rattle.px_banks.specs.declared.answers.Claim.TheVariants.{Claimed, Busy}
use Rattle.px_banks.specs.Answers.{noted}
use Rattle.px_hub.specs.declared.home.Home.{Home}
use Rattle.px_hub.specs.declared.home.Home.TheVariants.{Bank, NoBank}

-- The banks stand at these versions, and none is being built
pub record AreStands (banks : ℕ) (versions : List ℕ) (stands : List Stand) : Type 0 where
  pub wide : length versions ≡ banks
  pub versions_are : versions ≡ map (λ (b : Stand). b.version) stands
  pub none_built : All (λ (b : Stand). b.building ≡ 0) stands

-- bank j is tried before bank k
abbrev pub IsEarlier : List ℕ → ℕ → ℕ → Type 0
IsEarlier versions j k = (slice_index versions j < slice_index versions k) ⊎ ((slice_index versions j ≡ slice_index versions k) × (j < k))

-- Of the first n banks this is the next to be tried, where 0 is the word of those that were not
abbrev pub IsNext : List ℕ → List ℕ → ℕ → Option ℕ → Type 0
IsNext versions words n (Some k) = (k < n) × (slice_index words k ≡ 0) × ((j : ℕ) → j < n → slice_index words j ≡ 0 → IsEarlier versions j k → ⊥)
IsNext versions words n None = (j : ℕ) → j < n → slice_index words j ≢ 0

-- the first bank that stands at the version
abbrev pub IsStanding : List ℕ → ℕ → Option ℕ → Type 0
IsStanding versions n (Some k) = (k < length versions) × (slice_index versions k ≡ n) × ((j : ℕ) → j < k → slice_index versions j ≢ n)
IsStanding versions n None = (j : ℕ) → j < length versions → slice_index versions j ≢ n

-- a claim of bank k for version n failed, and found the word
abbrev pub HasBusy : ℕ → ℕ → ℕ → Stay → ℕ → ℕ → Type 0
HasBusy n pass loads s k word = (i : ℕ) × (get_elem? s.busy i ≡ some (record { bank = k; new = n; word = word; pass = pass; loads = loads }))

-- each word that is not 0 was found by a claim that failed
abbrev pub AreTried : ℕ → ℕ → ℕ → List ℕ → Stay → Type 0
AreTried n pass loads words s = (k : ℕ) → k < length words → slice_index words k ≢ 0 → HasBusy n pass loads s k (slice_index words k)

module _ {E : Type 0} where
  -- The bank stands at the new version, all places 0, or a claim of it found calls inside
  abbrev pub TryGives : ℕ → ℕ → ℕ → View E → View E → Claim → Type 0
  TryGives size k n v w Claimed = w ≡ restood k (stand n 0 size) v
  TryGives size k n v w (Busy x) = (0 < count_of x) × (w ≡ noted k n x v)

-- Banks stood at `versions`, and are asked for version n by a pass that has loaded so many times. `v` is what the desk knew of the banks before, `w` what it knows then
module _ (versions : List ℕ) (n pass loads : ℕ) where
  -- claims of all banks that come before bank k failed
  abbrev pub AreBusyBefore : ℕ → Stay → Type 0
  AreBusyBefore k w = (j : ℕ) → j < length versions → IsEarlier versions j k → (word : ℕ) × HasBusy n pass loads w j word

  -- One bank was renewed, behind failed claims of all that come before it in the order; or claims of all failed
  abbrev pub ClaimsGive : ℕ → Stay → Stay → List ℕ → Option ℕ → Type 0
  ClaimsGive size v w words (Some k) = (k < length versions) × (w.stands ≡ set v.stands k (stand n 0 size)) × AreBusyBefore k w
  ClaimsGive size v w words None = (w.stands ≡ v.stands) × ((k : ℕ) → k < length versions → HasBusy n pass loads w k (slice_index words k))

  -- The desk gives a bank at the version: the first that stands at it, or else the first in the order that was free, behind failed claims of those before it; or claims of all failed
  abbrev pub GivesHome : ℕ → Stay → Home → Type 0
  GivesHome banks w (Bank k) = (k < banks) × ((b : Stand) × (get_elem? w.stands k ≡ some b) × (b.version ≡ n) × (b.building ≡ 0))
      × (IsStanding versions n (Some k) ⊎ (IsStanding versions n None × AreBusyBefore k w))
  GivesHome banks w (NoBank words) = (length words ≡ banks) × ((k : ℕ) → k < banks → HasBusy n pass loads w k (slice_index words k))
