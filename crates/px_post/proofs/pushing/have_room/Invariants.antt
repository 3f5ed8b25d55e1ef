use Rattle.std.proofs.Common.{◌≡◌, ◌<◌, ℕ, length}
use Rattle.std.specs.Prelude.{◌^◌, Some, slice_get}
use Rattle.px_post.specs.Mail.{Way}
use Rattle.px_post.proofs.pushing.have_room.Given as goal

abbrev pub invariant-loop-slip : goal.invariant-loop-slip
invariant-loop-slip l = (b : ℕ) (w : Way) → b < l.slip-index → slice_get l.slips b ≡ Some w → length w.put < 2 ^ 62
