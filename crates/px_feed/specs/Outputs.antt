-- What is written for a feed.
use Rattle.std.specs.Prelude.{◌≡◌, ℕ, ◌+◌, ◌-◌, Bool, ◌&&◌, nat_le, nat_lt, List, [], ◌∷◌, ◌++◌, length, flat_map, find, Option, Some, None, Result, Ok, Err, if◌then◌else◌}
use Rattle.std.specs.List.{list_all, list_any}
use Rattle.px_text.specs.Names.{is_digit}
use Rattle.px_text.specs.Nodes.{Root}
use Rattle.px_text.specs.Numbers.{value}
use Rattle.px_xpath.specs.Filters.{Way}
use Rattle.px_xpath.specs.Histories.{Change, Adds, Drops, Replaces, Subscription, live, live_size, size, is_of, matches}
use Rattle.px_xpath.specs.declared.fault.FilterFault.{FilterFault}
use Rattle.px_feed.specs.declared.line.OutLine.{OutLine}
use Rattle.px_feed.specs.declared.line.OutLine.TheVariants.{Added, Dropped, Matched, NoFilter, AddTooLarge, AddNoVersions, DropUnknown, DropNoVersions, Replaced, ReplaceUnknown, ReplaceTooLarge, ReplaceNoVersions, Faulty}
use Rattle.px_feed.specs.declared.status.Status.{Status}
use Rattle.px_feed.specs.declared.status.Status.TheVariants.{Done, Refused}
use Rattle.px_feed.specs.Items.{Item, Adding, Removing, Replacing, Showing, Stop, AtEnd, AtFault, HasItems}
use Rattle.px_feed.specs.Lines.{line_text, is_refusal}
use Rattle.px_feed.specs.Matches.{Parses}

-- the text is one to nine digits
abbrev pub names_id : List ℕ → Bool
names_id text = nat_le 1 (length text) && nat_le (length text) 9 && list_all is_digit text

-- the id that a text names
abbrev pub id_of : List ℕ → Option ℕ
id_of text = if names_id text then Some (value text) else None

-- what an item asks, its texts read
pub data Ask : Type 0 where
  AsksAdd : Result Way FilterFault → Ask
  AsksDrop : Option ℕ → Ask
  AsksReplace : Option ℕ → Result Way FilterFault → Ask
  AsksMatches : Root → Ask

-- the item asks this
abbrev pub Asks : Item → Ask → Type 0
Asks (Adding text) (AsksAdd parsed) = Parses text parsed
Asks (Removing text) (AsksDrop id) = id ≡ id_of text
Asks (Replacing name text) (AsksReplace id parsed) = (id ≡ id_of name) × Parses text parsed
Asks (Showing root) (AsksMatches shown) = shown ≡ root
Asks _ _ = ⊥

-- each item asks what stands at its place
abbrev pub AllAsk : List Item → List Ask → Type 0
AllAsk [] [] = Unit {0}
AllAsk (item ∷ items) (ask ∷ asks) = Asks item ask × AllAsk items asks
AllAsk _ _ = ⊥

-- the most changes of one history
abbrev pub is_full : List Change → Bool
is_full history = nat_le 1_048_575 (length history)

-- filters of this size together are too large
abbrev pub is_too_large : ℕ → Bool
is_too_large size = nat_lt 500_000 size

abbrev pub next_version : List Change → ℕ
next_version history = length history + 1

-- a line, and the history behind it
abbrev pub Reply : Type 0
Reply = OutLine × List Change

abbrev pub reply_to_add : List Change → Result Way FilterFault → Reply
reply_to_add history (Err fault) = (NoFilter fault, history)
reply_to_add history (Ok filter) =
    let now = live_size (live history) in
    if is_too_large (now + size filter) then (AddTooLarge now, history)
    else if is_full history then (AddNoVersions, history)
    else (Added (next_version history), history ++ Adds 0 filter ∷ [])

-- the live filter that is named
abbrev pub named_live : List Change → Option ℕ → Option Subscription
named_live history None = None
named_live history (Some id) = find (is_of id) (live history)

abbrev pub reply_to_drop : List Change → Option Subscription → Reply
reply_to_drop history None = (DropUnknown, history)
reply_to_drop history (Some s) =
    if is_full history then (DropNoVersions, history)
    else (Dropped s.id (next_version history), history ++ Drops 0 s.id ∷ [])

abbrev pub reply_to_replace : List Change → Option Subscription → Result Way FilterFault → Reply
reply_to_replace history named (Err fault) = (NoFilter fault, history)
reply_to_replace history None (Ok filter) = (ReplaceUnknown, history)
reply_to_replace history (Some s) (Ok filter) =
    let others = live_size (live history) - size s.filter in
    if is_too_large (others + size filter) then (ReplaceTooLarge others, history)
    else if is_full history then (ReplaceNoVersions, history)
    else (Replaced s.id (next_version history), history ++ Replaces 0 s.id filter ∷ [])

-- the reply behind a history; the changes of a feed are made by number 0
abbrev pub reply : List Change → Ask → Reply
reply history (AsksAdd parsed) = reply_to_add history parsed
reply history (AsksDrop id) = reply_to_drop history (named_live history id)
reply history (AsksReplace id parsed) = reply_to_replace history (named_live history id) parsed
reply history (AsksMatches root) = (Matched (length history) (matches history root), history)

-- the history behind what is asked
abbrev pub history_behind : List Change → List Ask → List Change
history_behind history [] = history
history_behind history (ask ∷ asks) = history_behind (reply history ask).1 asks

-- the line for each that is asked, in order
abbrev pub lines_for : List Change → List Ask → List OutLine
lines_for history [] = []
lines_for history (ask ∷ asks) = (reply history ask).0 ∷ lines_for (reply history ask).1 asks

-- the line for how the items stop
abbrev pub lines_at : Stop → List OutLine
lines_at AtEnd = []
lines_at (AtFault line kind) = Faulty (record { line = line; kind = kind }) ∷ []

abbrev pub text_of : List OutLine → List ℕ
text_of = flat_map line_text

-- Refused where some line is a refusal
abbrev pub status_of : List OutLine → Status
status_of lines = if list_any is_refusal lines then Refused else Done

-- the lines are those for the items, from an empty history on
pub record AreLines (items : List Item) (lines : List OutLine) : Type 0 where
  pub asks : List Ask
  pub asked : AllAsk items asks
  pub lines_are : lines ≡ lines_for [] asks

-- the text and the status of a feed
pub record Out (bytes text : List ℕ) (status : Status) : Type 0 where
  pub items : List Item
  pub stop : Stop
  pub lines : List OutLine
  pub has_items : HasItems bytes items stop
  pub are_lines : AreLines items lines
  pub written : text ≡ text_of (lines ++ lines_at stop)
  pub ended : status ≡ status_of (lines ++ lines_at stop)
