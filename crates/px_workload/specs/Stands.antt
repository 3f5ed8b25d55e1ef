-- When a table stands for a list of changes.
use Rattle.std.specs.Prelude.{◌≡◌, List, Option, length}
use Rattle.px_xpath.specs.declared.filter.Filter.{Filter}
use Rattle.px_xpath.specs.Histories.{live, IsLegal}
use Rattle.px_workload.specs.declared.change.Change.{Change}
use Rattle.px_workload.specs.Changes.{history}
use Rattle.px_workload.specs.Slots.{listed}

-- The changes are a legal history. The table has a slot for each, and lists what is live behind them.
pub record Stands (changes : List Change) (slots : List (Option Filter)) : Type 0 where
  pub legal : IsLegal (history changes)
  pub versions : length slots ≡ length changes
  pub lists : listed slots ≡ live (history changes)
