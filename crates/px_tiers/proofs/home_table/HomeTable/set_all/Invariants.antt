-- The ids so far have moved.
use Rattle.std.proofs.Common.{◌≡◌, ℕ, take}
use Rattle.px_tiers.specs.HomeTables.{home_of}
use Rattle.px_tiers.specs.Parts.{moved}
use Rattle.px_tiers.proofs.home_table.HomeTable.set_all.Given as goal

abbrev pub invariant-loop-id : goal.invariant-loop-id
invariant-loop-id l = record {
  moved : (q : ℕ) → home_of l.self q ≡ moved (take l.id-index l.ids) l.number (home_of l.initial.self) q;
}
