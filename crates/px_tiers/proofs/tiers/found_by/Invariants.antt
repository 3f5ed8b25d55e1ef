-- The ids are those that pass in the tiers so far.
use Rattle.std.proofs.Common.{◌≡◌, ℕ, List, take}
use Rattle.std.specs.Prelude.{All}
use Rattle.std.specs.List.{AllZip}
use Rattle.px_text.specs.Nodes.{Root}
use Rattle.px_text.specs.Sets.{has}
use Rattle.px_reader.specs.Spelling.{events_of}
use Rattle.px_xpath.specs.Histories.{Subscription}
use Rattle.px_xpath.specs.Meaning.{holds}
use Rattle.px_tiers.specs.Bytes.{AreBounded, IsWithin}
use Rattle.px_tiers.specs.HomeTables.{home_of}
use Rattle.px_tiers.specs.Parts.{passes_at_home}
use Rattle.px_tiers.specs.Standings.{IsTier}
use Rattle.px_tiers.proofs.tiers.found_by.Given as goal

abbrev pub invariant-loop-at : goal.invariant-loop-at
invariant-loop-at l = record {
  ids : (parts : List (List Subscription)) (root : Root) → AllZip IsTier l.initial.tier-items parts → events_of root ≡ l.events →
      (q : ℕ) → has l.ids.items q ≡ passes_at_home (home_of l.homes) (λ filter. holds filter root) 1 (take l.at parts) q;
  bounded : (left : ℕ) → AreBounded left l.initial.tier-items → AreBounded left l.tier-items;
  within : All IsWithin (take l.at l.tier-items);
  stand : (parts : List (List Subscription)) → AllZip IsTier l.initial.tier-items parts → AllZip IsTier l.tier-items parts;
}
