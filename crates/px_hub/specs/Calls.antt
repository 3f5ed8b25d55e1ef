-- What the calls of a hub make of a pass.
use Rattle.std.specs.Prelude.{◌≡◌, ℕ, ◌+◌, ◌<◌, ◌≤◌, ◌⊎◌, false, List, [], ◌∷◌, ◌++◌, length, Result, Ok, Err}
use mathlib.Core.Option.{some}
use lib.ListN.{get_elem?}
use Rattle.px_xpath.specs.declared.filter.Filter.{Filter as Filtering}
use Rattle.px_xpath.specs.Whole as whole
use Rattle.px_xpath.specs.Faults.{IsText, HasFault}
use Rattle.px_xpath.specs.Histories as histories
use Rattle.px_xpath.specs.Histories.{live, live_size, size, IsLive}
use Rattle.px_workload.specs.declared.change.Change.{Change}
use Rattle.px_workload.specs.declared.change.Change.TheVariants.{Add, Drop, Replace}
use Rattle.px_workload.specs.Changes.{history}
use Rattle.px_rule.specs.declared.view.Busy.{Busy}
use Rattle.px_rule.specs.declared.view.Place.TheVariants.{Outside}
use Rattle.px_rule.specs.Histories.{Begins, named}
use Rattle.px_hub.specs.declared.home.Home.{Home}
use Rattle.px_hub.specs.declared.home.Home.TheVariants.{Bank, NoBank}
use Rattle.px_hub.specs.declared.faults.SubscribeFault.{SubscribeFault}
use Rattle.px_hub.specs.declared.faults.SubscribeFault.TheVariants as add
use Rattle.px_hub.specs.declared.faults.UnsubscribeFault.{UnsubscribeFault}
use Rattle.px_hub.specs.declared.faults.UnsubscribeFault.TheVariants as drop
use Rattle.px_hub.specs.declared.faults.ReplaceFault.{ReplaceFault}
use Rattle.px_hub.specs.declared.faults.ReplaceFault.TheVariants as replace
use Rattle.px_hub.specs.Entries.{who_of}
use Rattle.px_hub.specs.Passes.{PassView, IsBusyFor}

abbrev pub seen_of : PassView → List Change
seen_of p = p.view.past.seen

-- The program, the bank, whether a call is open, where the pass is, and what it knows of places and of its entries of banks are as before
pub record SameMachine (v w : PassView) : Type 0 where
  pub have : w.have ≡ v.have
  pub home : w.home ≡ v.home
  pub is_open : w.is_open ≡ v.is_open
  pub place : w.view.stay.place ≡ v.view.stay.place
  pub enters : w.view.stay.enters ≡ v.view.stay.enters
  pub touch : w.view.touch ≡ v.view.touch

-- Changes of others came
pub record CameOthers (v w : PassView) : Type 0 where
  pub number : w.number ≡ v.number
  pub others : List Change
  pub of_others : named who_of v.number others ≡ []
  pub seen : seen_of w ≡ seen_of v ++ others
  pub mine : w.view.past.mine ≡ v.view.past.mine
  pub own : named who_of w.number (seen_of w) ≡ w.view.past.mine

-- Changes of others came, up to the version that was loaded
pub record CaughtUp (v w : PassView) : Type 0 where
  pub came : CameOthers v w
  pub machine : SameMachine v w
  pub loads : v.view.past.loads < w.view.past.loads
  pub last : w.view.past.last ≡ length (seen_of w)

-- Changes of others came, and then this one of the pass, which makes this version
pub record Accepted (change : Change) (version : ℕ) (v w : PassView) : Type 0 where
  pub number : w.number ≡ v.number
  pub others : List Change
  pub of_others : named who_of v.number others ≡ []
  pub seen : seen_of w ≡ (seen_of v ++ others) ++ change ∷ []
  pub mine : w.view.past.mine ≡ v.view.past.mine ++ change ∷ []
  pub own : named who_of w.number (seen_of w) ≡ w.view.past.mine
  pub version_is : version ≡ length (seen_of w)
  pub machine : SameMachine v w

-- the live filters behind some changes
abbrev pub live_behind : List Change → List histories.Subscription
live_behind seen = live (history seen)

-- how large they are together
abbrev pub size_behind : List Change → ℕ
size_behind seen = live_size (live_behind seen)

-- how large those are that are not of the id
abbrev pub size_beside : ℕ → List Change → ℕ
size_beside id seen = live_size (histories.after 0 (live_behind seen) (histories.Drops 0 id))

-- A filter is added, or is too large, or no version is left
abbrev pub AddsTo : Filtering → PassView → PassView → Result ℕ SubscribeFault → Type 0
AddsTo filter v w (Ok id) = (c : Accepted (Add v.number filter) id v w) × (size_behind (seen_of v ++ c.others) + size (whole.filter filter) ≤ 500_000) × (length (seen_of w) ≤ 1_048_575)
AddsTo filter v w (Err (add.Filter fault)) = ⊥
AddsTo filter v w (Err (add.TooLarge n)) = CaughtUp v w × (n ≡ size_behind (seen_of w)) × (500_000 < n + size (whole.filter filter))
AddsTo filter v w (Err add.NoVersions) = CaughtUp v w × (size_behind (seen_of w) + size (whole.filter filter) ≤ 500_000) × (length (seen_of w) ≡ 1_048_575)
AddsTo filter v w (Err add.Memory) = w ≡ v

-- `subscribe`
abbrev pub Subscribed : List ℕ → PassView → PassView → Result ℕ SubscribeFault → Type 0
Subscribed text v w (Err (add.Filter fault)) = HasFault text fault × (w ≡ v)
Subscribed text v w (Err add.Memory) = w ≡ v
Subscribed text v w answer = (filter : Filtering) × IsText text (whole.filter filter) × AddsTo filter v w answer

-- `unsubscribe`
abbrev pub Unsubscribed : ℕ → PassView → PassView → Result ℕ UnsubscribeFault → Type 0
Unsubscribed id v w (Ok version) = (c : Accepted (Drop v.number id) version v w) × IsLive id (live_behind (seen_of v ++ c.others)) × (length (seen_of w) ≤ 1_048_575)
Unsubscribed id v w (Err drop.Unknown) = CaughtUp v w × (IsLive id (live_behind (seen_of w)) → ⊥)
Unsubscribed id v w (Err drop.NoVersions) = CaughtUp v w × IsLive id (live_behind (seen_of w)) × (length (seen_of w) ≡ 1_048_575)
Unsubscribed id v w (Err drop.Memory) = w ≡ v

-- A live id gets another filter, or is unknown, or the filter is too large beside the others, or no version is left
abbrev pub PutsIn : ℕ → Filtering → PassView → PassView → Result ℕ ReplaceFault → Type 0
PutsIn id filter v w (Ok version) = (c : Accepted (Replace v.number id filter) version v w) × IsLive id (live_behind (seen_of v ++ c.others))
    × (size_beside id (seen_of v ++ c.others) + size (whole.filter filter) ≤ 500_000) × (length (seen_of w) ≤ 1_048_575)
PutsIn id filter v w (Err (replace.Filter fault)) = ⊥
PutsIn id filter v w (Err replace.Unknown) = CaughtUp v w × (IsLive id (live_behind (seen_of w)) → ⊥)
PutsIn id filter v w (Err (replace.TooLarge n)) = CaughtUp v w × IsLive id (live_behind (seen_of w)) × (n ≡ size_beside id (seen_of w)) × (500_000 < n + size (whole.filter filter))
PutsIn id filter v w (Err replace.NoVersions) = CaughtUp v w × IsLive id (live_behind (seen_of w))
    × (size_beside id (seen_of w) + size (whole.filter filter) ≤ 500_000) × (length (seen_of w) ≡ 1_048_575)
PutsIn id filter v w (Err replace.Memory) = w ≡ v

-- `replace`
abbrev pub Replaced : List ℕ → ℕ → PassView → PassView → Result ℕ ReplaceFault → Type 0
Replaced text id v w (Err (replace.Filter fault)) = HasFault text fault × (w ≡ v)
Replaced text id v w (Err replace.Memory) = w ≡ v
Replaced text id v w answer = (filter : Filtering) × IsText text (whole.filter filter) × PutsIn id filter v w answer

-- The pass has a bank that stood at its version, or for each bank, in order, the word of a claim for it that failed in this call
abbrev pub FoundHome : ℕ → PassView → PassView → Home → Type 0
FoundHome banks v w (Bank k) = (k < banks) × ((i : ℕ) × (get_elem? w.view.stay.stays i ≡ some (k, length (seen_of w))))
FoundHome banks v w (NoBank words) = (length words ≡ banks) × ((k word : ℕ) → get_elem? words k ≡ some word
    → (i : ℕ) × (e : Busy) × (get_elem? w.view.stay.busy i ≡ some e) × IsBusyFor w.number k (length (seen_of w)) word e × (v.view.past.loads < e.loads))

-- `refresh`: the pass has the newest version, its program and a bank or none, and is in no bank
pub record Refreshed (banks version : ℕ) (v w : PassView) : Type 0 where
  pub came : CameOthers v w
  pub version_is : version ≡ length (seen_of w)
  pub have : w.have ≡ version
  pub loads : v.view.past.loads < w.view.past.loads
  pub last : w.view.past.last ≡ version
  pub home : FoundHome banks v w w.home
  pub closed : w.is_open ≡ false
  pub outside : w.view.stay.place ≡ Outside
  pub enters : w.view.stay.enters ≡ v.view.stay.enters
  pub touch : w.view.touch ≡ v.view.touch

-- `meet`: the longer of the two histories, which both begin
pub record Met (note : List Change) (v w : PassView) : Type 0 where
  pub number : w.number ≡ v.number
  pub mine : w.view.past.mine ≡ v.view.past.mine
  pub own : named who_of w.number (seen_of w) ≡ w.view.past.mine
  pub before : Begins (seen_of v) (seen_of w)
  pub noted : Begins note (seen_of w)
  pub longer : (seen_of w ≡ seen_of v) ⊎ (seen_of w ≡ note)
  pub machine : SameMachine v w
