-- The changes that values of the program are.
use Rattle.std.specs.Prelude.{List, map}
use Rattle.px_xpath.specs.Histories as histories
use Rattle.px_xpath.specs.Whole as whole
use Rattle.px_workload.specs.declared.change.Change.{Change}
use Rattle.px_workload.specs.declared.change.Change.TheVariants.{Add, Drop, Replace}

abbrev pub change : Change → histories.Change
change (Add who filter) = histories.Adds who (whole.filter filter)
change (Drop who id) = histories.Drops who id
change (Replace who id filter) = histories.Replaces who id (whole.filter filter)

-- the history that the changes are
abbrev pub history : List Change → List histories.Change
history changes = map change changes
