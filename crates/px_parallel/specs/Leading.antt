-- One pass makes the changes of a hub, and the others filter.
use Rattle.std.specs.Prelude.{◌≡◌, ℕ, ◌<◌, false, List, [], ◌∷◌, length, slice_index_or}
use Rattle.px_workload.specs.declared.change.Change.{Change}
use Rattle.px_workload.specs.Changes.{history}
use Rattle.px_feed.specs.Outputs.{Ask, history_behind}
use Rattle.px_hub.specs.Passes.{PassView}
use Rattle.px_hub.specs.Calls.{seen_of}
use Rattle.px_changer.specs.Alone.{IsAlone}
use Rattle.px_changer.specs.Telling.{all_anonymous}

-- what the first of the passes has seen
abbrev pub seen_first : List PassView → List Change
seen_first [] = []
seen_first (first ∷ workers) = seen_of first

-- each has seen these changes
abbrev pub AllHaveSeen : List Change → List PassView → Type 0
AllHaveSeen seen ps = (k : ℕ) (d : PassView) → k < length ps → seen_of (slice_index_or ps k d) ≡ seen

-- The passes are all passes of the hub. The first makes all changes, and there are others.
pub record AreLed (passes : ℕ) (ps : List PassView) : Type 0 where
  pub first : PassView
  pub workers : List PassView
  pub are : ps ≡ first ∷ workers
  pub some : 0 < length workers
  pub alone : IsAlone passes first workers

-- This was asked of the passes and answered: the first has seen the changes that it makes.
pub record HaveAnswered (passes : ℕ) (ps : List PassView) (asks : List Ask) : Type 0 where
  pub led : AreLed passes ps
  pub history_is : history_behind [] asks ≡ history (all_anonymous (seen_first ps))

-- each has seen and made nothing, with no call open
abbrev pub AreUnused : List PassView → Type 0
AreUnused ps =
    (k : ℕ) (d : PassView) → k < length ps →
    (seen_of (slice_index_or ps k d) ≡ []) × ((slice_index_or ps k d).view.past.mine ≡ []) × ((slice_index_or ps k d).is_open ≡ false)
