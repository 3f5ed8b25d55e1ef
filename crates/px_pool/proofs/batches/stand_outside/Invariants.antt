use Rattle.std.proofs.Common.{ℕ, ◌<◌}
use Rattle.std.specs.Prelude.{slice_index_or}
use Rattle.px_hub.specs.Passes.{PassView}
use Rattle.px_hub.specs.Replying.{Stays}
use Rattle.px_pool.proofs.batches.stand_outside.Given as goal

abbrev pub invariant-loop-at : goal.invariant-loop-at
invariant-loop-at g l = (k : ℕ) (d : PassView) → k < l.at → Stays (slice_index_or l.passes k d) (slice_index_or l.passes k d)
