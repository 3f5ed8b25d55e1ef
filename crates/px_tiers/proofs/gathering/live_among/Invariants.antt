-- The live ones so far are found.
use Rattle.std.proofs.Common.{◌≡◌, ℕ, true, take}
use Rattle.px_text.specs.Sets.{has}
use Rattle.px_workload.specs.Changes.{history}
use Rattle.px_xpath.specs.Histories.{IsLive, live}
use Rattle.px_tiers.proofs.gathering.live_among.Given as goal

abbrev pub invariant-loop-id : goal.invariant-loop-id
invariant-loop-id l = record {
  all : (q : ℕ) → has (take l.id-index l.ids) q ≡ true → IsLive q (live (history l.journal.changes)) → has l.found.items q ≡ true;
}
