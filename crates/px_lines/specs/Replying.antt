-- What one item of a feed is answered.
use Rattle.std.specs.Prelude.{◌≡◌, List}
use Rattle.px_text.specs.Nodes.{Root}
use Rattle.px_reader.specs.Documents.{content}
use Rattle.px_reader.specs.Verdicts.{HasVerdict, IsTree}
use Rattle.px_reader.specs.declared.doc.Doc.{Doc}
use Rattle.px_feed.specs.declared.line.OutLine.{OutLine}
use Rattle.px_feed.specs.Items.{Item}
use Rattle.px_feed.specs.Outputs.{Ask, Asks, reply}
use Rattle.px_workload.specs.declared.change.Change.{Change}
use Rattle.px_workload.specs.Changes.{history}

-- the line is the reply to what is asked behind the earlier changes, and the later ones are the history behind it
abbrev pub Replies : (ask : Ask) → (before after : List Change) → OutLine → Type 0
Replies ask before after line = reply (history before) ask ≡ (line, history after)

-- the line answers the item
abbrev pub Answered : Item → (before after : List Change) → OutLine → Type 0
Answered item before after line = (ask : Ask) × Asks item ask × Replies ask before after line

-- the document's bytes spell the tree
pub record IsOf (doc : Doc) (root : Root) : Type 0 where
  pub verdict : HasVerdict (content doc) (IsTree root)
