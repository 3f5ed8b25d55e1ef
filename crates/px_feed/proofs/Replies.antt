-- Items that are answered one by one, behind a history.
use Rattle.std.proofs.Common.{◌≡◌, ℕ, List, [], ◌∷◌, ◌++◌, refl, ap}
use Rattle.px_xpath.specs.Histories.{Change}
use Rattle.px_feed.specs.declared.line.OutLine.{OutLine}
use Rattle.px_feed.specs.Items.{Item}
use Rattle.px_feed.specs.Outputs.{Ask, Asks, AllAsk, Reply, reply, history_behind, lines_for}

-- what is asked by items that follow others
pub asks-joined : (items more : List Item) (asks behind : List Ask) → AllAsk items asks → AllAsk more behind → AllAsk (items ++ more) (asks ++ behind)
asks-joined [] more [] behind a b = b
asks-joined [] more (ask ∷ asks) behind a b = absurd a
asks-joined (item ∷ items) more [] behind a b = absurd a
asks-joined (item ∷ items) more (ask ∷ asks) behind a b = (a.0, asks-joined items more asks behind a.1 b)

pub history-joined : (history : List Change) (asks behind : List Ask) → history_behind history (asks ++ behind) ≡ history_behind (history_behind history asks) behind
history-joined history [] behind = refl
history-joined history (ask ∷ asks) behind = history-joined (reply history ask).1 asks behind

pub lines-joined : (history : List Change) (asks behind : List Ask) →
    lines_for history (asks ++ behind) ≡ lines_for history asks ++ lines_for (history_behind history asks) behind
lines-joined history [] behind = refl
lines-joined history (ask ∷ asks) behind =
    ap (λ (lines : List OutLine). (reply history ask).0 ∷ lines) (lines-joined (reply history ask).1 asks behind)
