-- How far a run has come that answers a feed, where documents wait for their answers.
use Rattle.std.specs.Prelude.{◌≡◌, ℕ, ◌+◌, ◌≤◌, ◌++◌, ◌∷◌, [], List, length, Option, Some, None, Result, IsTrue, MatchResult}
use Rattle.px_io.specs.Faults.{Rose}
use Rattle.px_io.specs.Flows.{TakesFrom}
use Rattle.px_reader.specs.declared.doc.Doc.{Doc}
use Rattle.px_feed.specs.declared.ending.Taken.{Taken}
use Rattle.px_feed.specs.declared.ending.Taken.TheVariants as taken
use Rattle.px_feed.specs.declared.item.Item.{Item as Given}
use Rattle.px_feed.specs.declared.item.Item.TheVariants.{Document}
use Rattle.px_feed.specs.declared.line.OutLine.{OutLine}
use Rattle.px_feed.specs.declared.status.Status.{Status}
use Rattle.px_feed.specs.Items.{Item}
use Rattle.px_feed.specs.Outputs.{Ask, AllAsk, lines_for}
use Rattle.px_feed.specs.Progress.{Progress}
use Rattle.px_feed.specs.Taking as taking
use Rattle.px_lines.specs.Served.{is_cut_short}
use Rattle.px_lines.specs.Standing.{Streams, streams, BeginsOut, Ended}
use Rattle.px_lines.specs.Waiting.{HasSaid}
use Rattle.px_gather.specs.declared.gathering.Gathering.{Gathering}
use Rattle.px_gather.specs.Asking.{AreShown, AreAnswers, AreAsked}

-- the documents that wait
abbrev pub documents_of : Gathering → List Doc
documents_of run = run.documents.items

-- The bytes that were read gave these items. Where something was found last and is not taken up yet, it was found behind them.
abbrev pub HasGiven : Option Taken → Progress → (left : Option (List ℕ)) → (bytes : List ℕ) → List Item → Type 0
HasGiven None items left bytes given = taking.HasTaken items left bytes given
HasGiven (Some found) items left bytes given = taking.Answers found items left bytes given

-- The lines for any first ones of these items begin the output.
abbrev pub AllBegin : (left : Option (List ℕ)) → List Item → Type 0
AllBegin left given = (front rest : List Item) (asks : List Ask) → given ≡ front ++ rest → AllAsk front asks → BeginsOut left (lines_for [] asks)

-- Since the run began, so many items at least were taken up. Those before the documents that wait have asked this; they are answered, and their lines are said.
pub record Waits (found : Option Taken) (run : Gathering) (asks : List Ask) (first now : Streams) (least : ℕ) : Type 0 where
  pub bytes : List ℕ
  pub read : TakesFrom first.left bytes now.left
  pub given : List Item
  pub shown : List Item
  pub are_shown : AreShown run.documents.items shown
  pub gave : HasGiven found run.items now.left bytes (given ++ shown)
  pub all_begin : AllBegin first.left (given ++ shown)
  pub asked : AllAsk given asks
  pub said : HasSaid run.outgoing first.held now.held (lines_for [] asks)
  pub many : least ≤ length given + length shown
  pub counted : first.faults ≤ now.faults
  pub failed : found ≡ Some taken.ReadFault → Rose first.faults now.faults

-- nothing was taken, and nothing was said
pub record Begun (run : Gathering) : Type 0 where
  pub waits : (first : Streams) → Waits None run [] first first 0
  pub none : documents_of run ≡ []

-- the run was cut short, and has ended
abbrev pub IsCutOff : Status → (first now : Streams) → Type 0
IsCutOff status first now = IsTrue (is_cut_short status) × Ended status first now

-- something was found, or the run was cut short
abbrev pub TakesNext : Result Taken Status → (old new : Gathering) → (before now : Streams) → Type 0
TakesNext result old new before now =
    (asks : List Ask) (first : Streams) (least : ℕ) → Waits None old asks first before least →
    MatchResult result (λ found. Waits (Some found) new asks first now least) (λ status. IsCutOff status first now)

-- the document that was found waits
abbrev pub Keeps : Doc → (old new : Gathering) → Type 0
Keeps doc old new =
    (asks : List Ask) (first now : Streams) (least : ℕ) → Waits (Some (taken.Item (Document doc))) old asks first now least →
    Waits None new asks first now (least + 1)

-- all that was asked is answered, and this is still to be taken up; or the run was cut short
abbrev pub GoesOn : Result (Unit {0}) Status → Option Taken → (new : Gathering) → List Ask → (first now : Streams) → (least : ℕ) → Type 0
GoesOn result found new asks first now least = MatchResult result (λ _. Waits found new asks first now least) (λ status. IsCutOff status first now)

-- where these lines answer the documents that wait, all are answered
abbrev pub AnswersAll : List OutLine → Result (Unit {0}) Status → (old new : Gathering) → (held after : Option (List ℕ)) → Type 0
AnswersAll lines result old new held after =
    (found : Option Taken) (asks more : List Ask) (first : Streams) (left : Option (List ℕ)) (faults least : ℕ) →
    (w : Waits found old asks first (streams left held faults) least) → AreAnswers asks w.shown lines more →
    GoesOn result found new (asks ++ more) first (streams left after faults) least

-- where the line answers the item that was found, it is answered
abbrev pub Answers : OutLine → Result (Unit {0}) Status → (old new : Gathering) → (held after : Option (List ℕ)) → Type 0
Answers line result old new held after =
    (item : Given) (asks : List Ask) (ask : Ask) (first : Streams) (left : Option (List ℕ)) (faults least : ℕ) → documents_of old ≡ [] →
    (w : Waits (Some (taken.Item item)) old asks first (streams left held faults) least) → AreAnswers asks (w.gave.0 ∷ []) (line ∷ []) (ask ∷ []) →
    GoesOn result None new (asks ++ ask ∷ []) first (streams left after faults) (least + 1)

-- the run has ended as the feed has
abbrev pub Ends : Taken → Status → (old : Gathering) → (held after : Option (List ℕ)) → Type 0
Ends found status old held after =
    (asks : List Ask) (first : Streams) (left : Option (List ℕ)) (faults least : ℕ) → documents_of old ≡ [] →
    Waits (Some found) old asks first (streams left held faults) least →
    Ended status first (streams left after faults) × AreAsked status first.left left asks
