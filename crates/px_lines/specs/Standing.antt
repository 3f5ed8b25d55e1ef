-- How far a run that answers a feed has come.
use Rattle.std.specs.Prelude.{◌≡◌, ℕ, ◌≤◌, ◌++◌, [], List, length, Option, Some, IsTrue}
use Rattle.px_io.specs.Faults.{Rose}
use Rattle.px_io.specs.Flows.{TakesFrom}
use Rattle.px_feed.specs.declared.feed.Items.{Items}
use Rattle.px_feed.specs.declared.line.OutLine.{OutLine}
use Rattle.px_feed.specs.declared.status.Status.{Status}
use Rattle.px_feed.specs.declared.status.Status.TheVariants.{Usage, ReadFault}
use Rattle.px_feed.specs.Items.{Item}
use Rattle.px_feed.specs.Outputs.{Ask, AllAsk, Out, history_behind, lines_for, text_of}
use Rattle.px_feed.specs.Taking.{HasTaken}
use Rattle.px_workload.specs.declared.change.Change.{Change}
use Rattle.px_workload.specs.Changes.{history}
use Rattle.px_lines.specs.Served.{Served, ServedWhole, ServedFront, is_finished, is_cut_short}
use Rattle.px_lines.specs.Waiting.{HasSaid}
use Rattle.px_lines.specs.declared.outgoing.Outgoing.{Outgoing}

-- what the source and the sink of a run tell at some moment
pub record Streams : Type 0 where
  pub left : Option (List ℕ)
  pub held : Option (List ℕ)
  -- those of the source
  pub faults : ℕ

abbrev pub streams : (left held : Option (List ℕ)) → ℕ → Streams
streams left held faults = record { left = left; held = held; faults = faults }

-- Some output of the bytes that were left begins with the text of these lines.
abbrev pub BeginsOut : (left : Option (List ℕ)) → List OutLine → Type 0
BeginsOut left lines =
    (bytes : List ℕ) → left ≡ Some bytes → (text more : List ℕ) × (status : Status) × Out bytes text status × (text ≡ text_of lines ++ more)

-- Since the run began, so many items at least were answered; their lines are said, and these are their changes. The items in waiting were taken too.
pub record Stands (items : Items) (changes : List Change) (outgoing : Outgoing) (first now : Streams) (waiting : List Item) (least : ℕ) : Type 0 where
  pub bytes : List ℕ
  pub read : TakesFrom first.left bytes now.left
  pub given : List Item
  pub taken : HasTaken items now.left bytes (given ++ waiting)
  pub asks : List Ask
  pub asked : AllAsk given asks
  pub changed : history_behind [] asks ≡ history changes
  pub said : HasSaid outgoing first.held now.held (lines_for [] asks)
  pub many : least ≤ length given
  pub counted : first.faults ≤ now.faults

-- how the run has ended
pub record Ended (status : Status) (first now : Streams) : Type 0 where
  pub output : IsTrue (is_finished status) → Served first.left now.left first.held now.held status
  pub front : IsTrue (is_cut_short status) → ServedFront first.left first.held now.held
  pub whole_items : status ≡ ReadFault → ServedWhole first.left now.left first.held now.held
  pub read_fault : status ≡ ReadFault → Rose first.faults now.faults
  pub not_usage : status ≡ Usage → ⊥
