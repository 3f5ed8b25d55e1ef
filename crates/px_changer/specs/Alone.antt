-- One pass makes all changes of a hub.
use Rattle.std.specs.Prelude.{◌≡◌, ℕ, ◌<◌, ◌⊎◌, false, List, [], ◌∷◌, length, slice_index_or, slice_set}
use Rattle.px_workload.specs.declared.change.Change.{Change}
use Rattle.px_workload.specs.Changes.{history}
use Rattle.px_xpath.specs.Histories.{IsLegal}
use Rattle.px_hub.specs.Entries.{who_of}
use Rattle.px_hub.specs.Passes.{PassView}
use Rattle.px_hub.specs.Calls.{Met, seen_of}
use Rattle.px_hub.specs.AllOfThem.{AreClosed}

-- all changes name this pass
abbrev pub AllBy : ℕ → List Change → Type 0
AllBy number [] = Unit {0}
AllBy number (c ∷ cs) = (who_of c ≡ number) × AllBy number cs

-- they have made no change
abbrev pub AreIdle : List PassView → Type 0
AreIdle others = (k : ℕ) (d : PassView) → k < length others → (slice_index_or others k d).view.past.mine ≡ []

-- each pass of the hub is the first or one of the others
abbrev pub HoldEvery : (passes first : ℕ) → List PassView → Type 0
HoldEvery passes first others = (n : ℕ) → n < passes → (n ≡ first) ⊎ ((k : ℕ) × (k < length others) × ((d : PassView) → (slice_index_or others k d).number ≡ n))

-- The first and the others are all passes of the hub, with no call open. The first has made all changes that it has seen, which are a legal history, and the others have made none
pub record IsAlone (passes : ℕ) (first : PassView) (others : List PassView) : Type 0 where
  pub first_closed : first.is_open ≡ false
  pub closed : AreClosed others
  pub idle : AreIdle others
  pub every : HoldEvery passes first.number others
  pub all_own : AllBy first.number (seen_of first)
  pub legal : IsLegal (history (seen_of first))

-- one of the passes has met a note
abbrev pub MetAt : List Change → ℕ → (vs ws : List PassView) → Type 0
MetAt note at vs ws = (pass : PassView) × (ws ≡ slice_set vs at pass) × ((d : PassView) → Met note (slice_index_or vs at d) pass)

-- each has met it
pub record AllMet (note : List Change) (vs ws : List PassView) : Type 0 where
  pub as_many : length ws ≡ length vs
  pub each : (k : ℕ) (d : PassView) → k < length vs → Met note (slice_index_or vs k d) (slice_index_or ws k d)
