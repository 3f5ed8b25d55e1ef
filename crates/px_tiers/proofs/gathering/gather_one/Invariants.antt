-- What was gathered stays, and those so far that are at home behind come to it.
use Rattle.std.proofs.Common.{◌≡◌, ◌<◌, ℕ, true, take}
use Rattle.px_text.specs.Sets.{has}
use Rattle.px_tiers.specs.HomeTables.{home_of}
use Rattle.px_tiers.proofs.gathering.gather_one.Given as goal

abbrev pub invariant-loop-id : goal.invariant-loop-id
invariant-loop-id l = record {
  old : (q : ℕ) → has l.initial.gathered.items q ≡ true → has l.gathered.items q ≡ true;
  new : (q : ℕ) → has (take l.id-index l.ids) q ≡ true → l.kept < home_of l.homes q → has l.gathered.items q ≡ true;
}
