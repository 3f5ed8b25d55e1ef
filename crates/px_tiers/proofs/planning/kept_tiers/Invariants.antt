-- No more stay than there are, nor than may be.
use Rattle.std.proofs.Common.{◌≤◌, ◌<◌, length}
use Rattle.px_tiers.proofs.planning.kept_tiers.Given as goal

abbrev pub invariant-loop-behind : goal.invariant-loop-behind
invariant-loop-behind l = record {
  within : l.kept ≤ length l.tiers;
  few : l.kept < 8;
}
