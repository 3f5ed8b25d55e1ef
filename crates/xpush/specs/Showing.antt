-- What is shown of a filter.
use Rattle.std.specs.Prelude.{◌≡◌, ◌++◌, ◌∷◌, [], ℕ, List}
use Rattle.px_feed.specs.declared.line.OutLine.TheVariants.{NoFilter}
use Rattle.px_feed.specs.declared.status.Status.{Status}
use Rattle.px_feed.specs.declared.status.Status.TheVariants.{Done, Refused}
use Rattle.px_feed.specs.Lines.{line_text}
use Rattle.px_xpath.specs.declared.fault.ParseFault.{ParseFault}
use Rattle.px_xpath.specs.declared.fault.ParseFault.TheVariants.{Filter, Memory}
use Rattle.px_xpath.specs.Filters.{Way}
use Rattle.px_xpath.specs.Printed.{printed}

-- the filter's printed form and a line feed
abbrev pub ShowsPrinted : Way → List ℕ → Status → Type 0
ShowsPrinted way text status = (text ≡ printed way ++ 10 ∷ []) × (status ≡ Done)

-- the line of the filter's fault; for want of memory nothing is shown
abbrev pub ShowsRefusal : ParseFault → List ℕ → Status → Type 0
ShowsRefusal (Filter fault) text status = (text ≡ line_text (NoFilter fault)) × (status ≡ Refused)
ShowsRefusal Memory text status = ⊥
