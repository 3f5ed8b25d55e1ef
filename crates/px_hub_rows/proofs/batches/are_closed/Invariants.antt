use Rattle.std.proofs.Common.{◌≡◌, ℕ, ◌<◌, false}
use Rattle.std.specs.Prelude.{slice_index_or}
use Rattle.px_hub.specs.Passes.{PassView}
use Rattle.px_hub_rows.proofs.batches.are_closed.Given as goal

abbrev pub invariant-loop-at : goal.invariant-loop-at
invariant-loop-at g l = (k : ℕ) (d : PassView) → k < l.at → (slice_index_or l.passes k d).is_open ≡ false
