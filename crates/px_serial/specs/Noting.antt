-- What a line tells the machines of the live filters.
use Rattle.std.specs.Prelude.{List}
use Rattle.px_feed.specs.declared.line.OutLine.{OutLine}
use Rattle.px_feed.specs.Items.{Item}
use Rattle.px_tiers.specs.declared.tiers.Tiers.{Tiers}
use Rattle.px_tiers.specs.Standings.{StandFor}
use Rattle.px_workload.specs.declared.change.Change.{Change}
use Rattle.px_workload.specs.Changes.{history}
use Rattle.px_xpath.specs.Histories.{live}
use Rattle.px_lines.specs.Replying.{Answered}

-- Whatever item the line answers: where the machines stood for the filters that were live before it, they stand for those that are live behind it.
abbrev pub TellsOf : OutLine → (old new : Tiers) → Type 0
TellsOf line old new =
    (item : Item) (before after : List Change) → Answered item before after line → StandFor old (live (history before)) → StandFor new (live (history after))
