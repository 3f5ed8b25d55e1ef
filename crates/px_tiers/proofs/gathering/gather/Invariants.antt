-- What was gathered stays, and those of the tiers so far come to it.
use Rattle.std.proofs.Common.{◌≡◌, ℕ, true, take}
use Rattle.std.specs.Prelude.{All}
use Rattle.px_text.specs.Sets.{has}
use Rattle.px_tiers.specs.HomeTables.{home_of}
use Rattle.px_tiers.specs.Standings.{AreTaken}
use Rattle.px_tiers.proofs.gathering.gather.Given as goal

abbrev pub invariant-loop-tier : goal.invariant-loop-tier
invariant-loop-tier l = record {
  old : (q : ℕ) → has l.initial.gathered.items q ≡ true → has l.gathered.items q ≡ true;
  new : All (AreTaken (home_of l.homes) l.kept l.gathered.items) (take l.tier-index l.tiers);
}
