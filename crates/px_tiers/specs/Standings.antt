-- What tiers stand for.
use Rattle.std.specs.Prelude.{◌≡◌, ◌<◌, ℕ, true, List, [], map}
use Rattle.std.specs.List.{AllZip}
use Rattle.px_text.specs.Sets.{has}
use Rattle.px_xpath.specs.Histories.{Subscription}
use Rattle.px_afa.specs.Accepting.{HaveSteps}
use Rattle.px_afa.specs.Building.{automata}
use Rattle.px_machine.specs.Machines.{HasRun}
use Rattle.px_tiers.specs.declared.tier.Tier.{Tier}
use Rattle.px_tiers.specs.declared.tiers.Tiers.{Tiers}
use Rattle.px_tiers.specs.Bytes.{AreBounded}
use Rattle.px_tiers.specs.HomeTables.{home_of}
use Rattle.px_tiers.specs.Parts.{Homes, AreShared}

-- The machine is that of these filters, and stands before a document.
pub record IsTier (tier : Tier) (part : List Subscription) : Type 0 where
  pub run : HasRun tier.machine (automata part) []
  pub steps : HaveSteps part
  pub ids : tier.ids.items ≡ map (λ s. s.id) part

-- The live filters are shared out among the machines, but for those that wait. Together the machines may remember so many bytes.
pub record StandFor (tiers : Tiers) (live : List Subscription) : Type 0 where
  pub parts : List (List Subscription)
  pub machines : AllZip IsTier tiers.tiers.items parts
  pub shared : AreShared (home_of tiers.homes) parts tiers.waiting.items live
  pub bounded : AreBounded 134_217_728 tiers.tiers.items

-- The same, and nobody waits.
pub record AreSettled (tiers : Tiers) (live : List Subscription) : Type 0 where
  pub stand : StandFor tiers live
  pub none_waits : tiers.waiting.items ≡ []

-- Those of its ids that are at home behind so many tiers are among these.
abbrev pub AreTaken : Homes → (kept : ℕ) → (gathered : List ℕ) → Tier → Type 0
AreTaken homes kept gathered tier = (q : ℕ) → has tier.ids.items q ≡ true → kept < homes q → has gathered q ≡ true
