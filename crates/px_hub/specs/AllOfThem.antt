-- What a refresh of all passes of a hub makes of them.
use Rattle.std.specs.Prelude.{◌≡◌, ℕ, ◌<◌, ◌≤◌, ◌⊎◌, false, List, length, slice_index_or, slice_set, All}
use Rattle.px_workload.specs.declared.change.Change.{Change}
use Rattle.px_hub.specs.Entries.{who_of}
use Rattle.px_hub.specs.Passes.{PassView}
use Rattle.px_hub.specs.Calls.{Refreshed, seen_of}

-- each pass of the hub is among them
abbrev pub HoldsEvery : ℕ → List PassView → Type 0
HoldsEvery passes ps = (n : ℕ) → n < passes → (k : ℕ) × (k < length ps) × ((d : PassView) → (slice_index_or ps k d).number ≡ n)

-- no call is open on any of them
abbrev pub AreClosed : List PassView → Type 0
AreClosed ps = (k : ℕ) (d : PassView) → k < length ps → (slice_index_or ps k d).is_open ≡ false

-- Each is refreshed, all have seen the same, and that is the most that one of them had seen before
pub record AllRefreshed (banks version : ℕ) (vs ws : List PassView) : Type 0 where
  pub as_many : length ws ≡ length vs
  pub each : (k : ℕ) (d : PassView) → k < length vs → Refreshed banks version (slice_index_or vs k d) (slice_index_or ws k d)
  pub same : (j k : ℕ) (d : PassView) → j < length vs → k < length vs → seen_of (slice_index_or ws j d) ≡ seen_of (slice_index_or ws k d)
  pub most : (k : ℕ) (d : PassView) → k < length vs → length (seen_of (slice_index_or vs k d)) ≤ version
  pub held : 0 < length vs → (k : ℕ) × (k < length vs) × ((d : PassView) → length (seen_of (slice_index_or vs k d)) ≡ version)

-- each is refreshed or as before
pub record SomeRefreshed (banks : ℕ) (vs ws : List PassView) : Type 0 where
  pub as_many : length ws ≡ length vs
  pub each : (k : ℕ) (d : PassView) → k < length vs → (slice_index_or ws k d ≡ slice_index_or vs k d) ⊎ ((version : ℕ) × Refreshed banks version (slice_index_or vs k d) (slice_index_or ws k d))

-- one of the passes is refreshed, and has then seen the log, whose entries name passes of the hub
pub record RefreshedAt (banks passes : ℕ) (log : List Change) (at : ℕ) (vs ws : List PassView) : Type 0 where
  pub pass : PassView
  pub set_is : ws ≡ slice_set vs at pass
  pub refreshed : (d : PassView) → Refreshed banks (length log) (slice_index_or vs at d) pass
  pub seen : seen_of pass ≡ log
  pub of_passes : All (λ c. who_of c < passes) log
