-- How far a run of `serial` has come.
use Rattle.std.specs.Prelude.{◌≡◌, ℕ, ◌+◌, ◌≤◌, ◌∷◌, [], List, length, Option, Result, IfOk, OnOk, IfErr, MatchResult}
use Rattle.px_io.specs.Faults.{Rose}
use Rattle.px_io.specs.Flows.{TakesFrom}
use Rattle.px_feed.specs.declared.ending.Taken.{Taken}
use Rattle.px_feed.specs.declared.ending.Taken.TheVariants as taken
use Rattle.px_feed.specs.declared.item.Item.{Item as Given}
use Rattle.px_feed.specs.declared.line.OutLine.{OutLine}
use Rattle.px_feed.specs.declared.status.Status.{Status}
use Rattle.px_feed.specs.Effects.{IsItem}
use Rattle.px_feed.specs.Items.{Item}
use Rattle.px_feed.specs.Outputs.{Ask, AllAsk, history_behind, lines_for}
use Rattle.px_feed.specs.Taking as taking
use Rattle.px_workload.specs.declared.change.Change.{Change}
use Rattle.px_workload.specs.Changes.{history}
use Rattle.px_xpath.specs.Histories.{live}
use Rattle.px_tiers.specs.Standings.{StandFor}
use Rattle.px_lines.specs.Replying.{Answered}
use Rattle.px_lines.specs.Standing.{Streams, streams, BeginsOut, Stands, Ended}
use Rattle.px_lines.specs.Waiting.{HasSaid}
use Rattle.px_serial.specs.declared.serving.Serving.{Serving}

-- all items that were taken are answered
abbrev pub Rests : Serving → (first now : Streams) → (least : ℕ) → Type 0
Rests serving first now least = Stands serving.items serving.journal.changes serving.outgoing first now [] least

-- all but this one
abbrev pub Holds : Given → Serving → (first now : Streams) → (least : ℕ) → Type 0
Holds item serving first now least =
    (brought : Item) × IsItem item brought × Stands serving.items serving.journal.changes serving.outgoing first now (brought ∷ []) least

-- This was taken behind items that are all answered.
pub record Took (found : Taken) (serving : Serving) (first now : Streams) (least : ℕ) : Type 0 where
  pub bytes : List ℕ
  pub read : TakesFrom first.left bytes now.left
  pub given : List Item
  pub answers : taking.Answers found serving.items now.left bytes given
  pub asks : List Ask
  pub asked : AllAsk given asks
  pub changed : history_behind [] asks ≡ history serving.journal.changes
  pub said : HasSaid serving.outgoing first.held now.held (lines_for [] asks)
  pub begun : BeginsOut first.left (lines_for [] asks)
  pub many : least ≤ length given
  pub counted : first.faults ≤ now.faults
  pub failed : found ≡ taken.ReadFault → Rose first.faults now.faults

-- a next item is in hand, or the run has ended
abbrev pub Goes : Result Given Status → Serving → (first now : Streams) → (least : ℕ) → Type 0
Goes result serving first now least = MatchResult result (λ item. Holds item serving first now least) (λ status. Ended status first now)

-- what a call makes of a run that rests
abbrev pub TakesNext : Result Given Status → (old new : Serving) → (before now : Streams) → Type 0
TakesNext result old new before now = (first : Streams) (least : ℕ) → Rests old first before least → Goes result new first now least

-- what a call makes of what was taken, which reads nothing
abbrev pub TakesUp : Taken → Result Given Status → (old new : Serving) → (held after : Option (List ℕ)) → Type 0
TakesUp found result old new held after =
    (first : Streams) (left : Option (List ℕ)) (faults least : ℕ) → Took found old first (streams left held faults) least →
    Goes result new first (streams left after faults) least

-- what a call makes of an item in hand: it is answered at least, and the next one is in hand
abbrev pub ServesItem : Given → Result Given Status → (old new : Serving) → (before now : Streams) → Type 0
ServesItem item result old new before now = (first : Streams) (least : ℕ) → Holds item old first before least → Goes result new first now (least + 1)

-- A line answers the item in waiting, and its change is in the journal; or there was no memory for it.
pub record HasLine {E : Type 0} (line : Result OutLine E) (serving : Serving) (first now : Streams) (least : ℕ) : Type 0 where
  pub before : List Change
  pub brought : Item
  pub stands : Stands serving.items before serving.outgoing first now (brought ∷ []) least
  pub answers : IfOk line (λ one. Answered brought before serving.journal.changes one)

-- what a call makes of the line
abbrev pub Replies : {E : Type 0} → Result OutLine E → Result Given Status → (old new : Serving) → (before now : Streams) → Type 0
Replies line result old new before now = (first : Streams) (least : ℕ) → HasLine line old first before least → Goes result new first now (least + 1)

-- the same of one that only says it
abbrev pub SaysLine : {E : Type 0} → Result OutLine E → Result (Unit {0}) Status → (old new : Serving) → (held after : Option (List ℕ)) → Type 0
SaysLine line result old new held after =
    (first : Streams) (left : Option (List ℕ)) (faults least : ℕ) → HasLine line old first (streams left held faults) least →
    OnOk result (Rests new first (streams left after faults) (least + 1)) × IfErr result (λ status. Ended status first (streams left after faults))

-- the machines stand for the filters that are live behind the changes
abbrev pub KeepsUp : Serving → Type 0
KeepsUp serving = StandFor serving.tiers (live (history serving.journal.changes))
