-- The history that a pass has seen, as a feed tells it: its changes name number 0.
use Rattle.std.specs.Prelude.{List, map}
use Rattle.px_workload.specs.declared.change.Change.{Change}
use Rattle.px_workload.specs.declared.change.Change.TheVariants.{Add, Drop, Replace}
use Rattle.px_hub.specs.Passes.{PassView}
use Rattle.px_hub.specs.Calls.{seen_of}

abbrev pub anonymous : Change → Change
anonymous (Add who filter) = Add 0 filter
anonymous (Drop who id) = Drop 0 id
anonymous (Replace who id filter) = Replace 0 id filter

abbrev pub all_anonymous : List Change → List Change
all_anonymous = map anonymous

abbrev pub told : PassView → List Change
told pass = all_anonymous (seen_of pass)
