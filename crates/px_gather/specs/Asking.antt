-- What the items of a feed ask, and who answers it.
use Rattle.std.specs.Prelude.{◌≡◌, ℕ, ◌++◌, ◌∷◌, [], List, Option, Some, IsTrue}
use Rattle.px_io.specs.Flows.{TakesFrom}
use Rattle.px_reader.specs.declared.doc.Doc.{Doc}
use Rattle.px_feed.specs.declared.item.Item.{Item as Given}
use Rattle.px_feed.specs.declared.item.Item.TheVariants.{Document}
use Rattle.px_feed.specs.declared.line.OutLine.{OutLine}
use Rattle.px_feed.specs.declared.status.Status.{Status}
use Rattle.px_feed.specs.declared.status.Status.TheVariants.{ReadFault}
use Rattle.px_feed.specs.Effects.{IsItem}
use Rattle.px_feed.specs.Items.{Item, Showing, Stop, HasItems, AreWhole}
use Rattle.px_feed.specs.Outputs.{Ask, AllAsk, history_behind, lines_for}
use Rattle.px_lines.specs.Replying.{IsOf}
use Rattle.px_lines.specs.Served.{is_finished, is_cut_short}

-- the bytes of each document spell the tree of its item
abbrev pub AreShown : List Doc → List Item → Type 0
AreShown [] [] = Unit {0}
AreShown (doc ∷ docs) (Showing root ∷ items) = IsOf doc root × AreShown docs items
AreShown _ _ = ⊥

-- The items ask this, and the lines answer it behind what was asked before.
pub record AreAnswers (before : List Ask) (items : List Item) (lines : List OutLine) (asks : List Ask) : Type 0 where
  pub asked : AllAsk items asks
  pub lines_are : lines ≡ lines_for (history_behind [] before) asks

-- the item is a change
abbrev pub IsChange : Given → Type 0
IsChange item = (doc : Doc) → item ≡ Document doc → ⊥

-- Where `answered` says what was asked of a state and answered: what a call makes of it that answers the item by the line.
abbrev pub AnswersChange : {S : Type 0} → (answered : S → List Ask → Type 0) → Given → (old new : S) → OutLine → Type 0
AnswersChange answered item old new line =
    (before : List Ask) (brought : Item) → answered old before → IsItem item brought →
    (ask : Ask) × AreAnswers before (brought ∷ []) (line ∷ []) (ask ∷ []) × answered new (before ++ ask ∷ [])

-- the same of one that answers these documents by these lines
abbrev pub AnswersDocuments : {S : Type 0} → (answered : S → List Ask → Type 0) → List Doc → (old new : S) → List OutLine → Type 0
AnswersDocuments answered docs old new lines =
    (before : List Ask) (shown : List Item) → answered old before → AreShown docs shown →
    (asks : List Ask) × AreAnswers before shown lines asks × answered new (before ++ asks)

-- the items of a feed with these bytes ask this
abbrev pub ItemsAsk : (bytes : List ℕ) → List Ask → Type 0
ItemsAsk bytes asks = (items : List Item) × (stop : Stop) × HasItems bytes items stop × AllAsk items asks

-- What was asked are the items of the feed; where the source failed, those that are whole in the bytes read.
pub record AreAsked (status : Status) (left after : Option (List ℕ)) (asks : List Ask) : Type 0 where
  pub all_items : IsTrue (is_finished status) → (bytes : List ℕ) → left ≡ Some bytes → ItemsAsk bytes asks
  pub whole_items : status ≡ ReadFault → (bytes : List ℕ) × (items : List Item) × TakesFrom left bytes after × AreWhole bytes items × AllAsk items asks

-- a run that was not cut short answered what was asked
abbrev pub HasAnswered : (answered : List Ask → Type 0) → Status → (left after : Option (List ℕ)) → Type 0
HasAnswered answered status left after = (IsTrue (is_cut_short status) → ⊥) → (asks : List Ask) × answered asks × AreAsked status left after asks
