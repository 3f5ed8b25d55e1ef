-- The share behind so many older ones.
use Rattle.std.proofs.Common.{◌≡◌, ◌+◌}
use Rattle.px_tiers.specs.Bytes.{halved}
use Rattle.px_tiers.proofs.planning.share_of.Given as goal

abbrev pub invariant-loop : goal.invariant-loop
invariant-loop l = record {
  share : l.share ≡ halved 134_217_728 (l.counter + 1);
}
