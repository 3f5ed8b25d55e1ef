-- Those so far that are at home in the tier are kept.
use Rattle.std.proofs.Common.{◌≡◌, ◌+◌, ◌||◌, ◌&&◌, ℕ, take}
use Rattle.std.specs.Prelude.{◌==◌}
use Rattle.px_text.specs.Sets.{has}
use Rattle.px_tiers.specs.HomeTables.{home_of}
use Rattle.px_tiers.proofs.tiers.keep_at_home.Given as goal

abbrev pub invariant-loop-id : goal.invariant-loop-id
invariant-loop-id l = record {
  kept : (q : ℕ) → has l.kept.items q ≡ (has l.initial.kept.items q || (home_of l.homes q == l.older + 1 && has (take l.id-index l.ids) q));
}
