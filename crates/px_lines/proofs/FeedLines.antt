-- The line for the item that was taken first and waits: it is said.
use Rattle.std.proofs.Common.{◌≡◌, ℕ, ◌+◌, List, [], ◌∷◌, ◌++◌, Option, Result, Ok, Err, OnOk, IfErr, ap, sym, ◌∙◌, subst, arith, append_assoc, length-append}
use Rattle.px_feed.specs.declared.feed.Items.{Items}
use Rattle.px_feed.specs.declared.line.OutLine.{OutLine}
use Rattle.px_feed.specs.declared.status.Status.{Status}
use Rattle.px_feed.specs.Items.{Item}
use Rattle.px_feed.specs.Outputs.{Ask, Reply, reply, history_behind, lines_for}
use Rattle.px_feed.specs.Taking.{HasTaken}
use Rattle.px_feed.proofs.Replies.{asks-joined, history-joined, lines-joined}
use Rattle.px_workload.specs.declared.change.Change.{Change}
use Rattle.px_workload.specs.Changes.{history}
use Rattle.px_lines.specs.declared.outgoing.Outgoing.{Outgoing}
use Rattle.px_lines.specs.Replying.{Answered}
use Rattle.px_lines.specs.Standing.{Streams, streams, Stands, Ended}
use Rattle.px_lines.specs.Waiting.{HasSaid, IsCut, SaysOn}
use Rattle.px_lines.proofs.FeedEnds.{cut_ended}
use Rattle.px_lines.proofs.FeedFronts.{begins}

-- what is asked last, its line, and the history behind it
last_line : (asks : List Ask) (ask : Ask) (before after : List Change) (line : OutLine) → history_behind [] asks ≡ history before →
    reply (history before) ask ≡ (line, history after) → lines_for [] asks ++ line ∷ [] ≡ lines_for [] (asks ++ ask ∷ [])
last_line asks ask before after line behind e =
    let replied : reply (history_behind [] asks) ask ≡ (line, history after) = ap (λ h. reply h ask) behind ∙ e in
    ap (λ (r : Reply). lines_for [] asks ++ r.0 ∷ []) (sym replied) ∙ sym (lines-joined [] asks (ask ∷ []))

last_history : (asks : List Ask) (ask : Ask) (before after : List Change) (line : OutLine) → history_behind [] asks ≡ history before →
    reply (history before) ask ≡ (line, history after) → history_behind [] (asks ++ ask ∷ []) ≡ history after
last_history asks ask before after line behind e =
    history-joined [] asks (ask ∷ []) ∙ ap (λ h. (reply h ask).1) behind ∙ ap (λ (r : Reply). r.1) e

-- one of the items in waiting is counted with those before it
one_further : (items : Items) (left : Option (List ℕ)) (bytes : List ℕ) (given waiting : List Item) (item : Item) → HasTaken items left bytes (given ++ item ∷ waiting) →
    HasTaken items left bytes ((given ++ item ∷ []) ++ waiting)
one_further items left bytes given waiting item taken =
    let P : List Item → Type 0 = λ all. HasTaken items left bytes all in subst P (sym (append_assoc given (item ∷ []) waiting)) taken

-- the first item in waiting is answered
answered_next : (brought : Item) (waiting : List Item) (line : OutLine) (before after : List Change) (items : Items) (old new : Outgoing) (first : Streams)
    (left held held_after : Option (List ℕ)) (faults least : ℕ) → (s : Stands items before old first (streams left held faults) (brought ∷ waiting) least) →
    Answered brought before after line → HasSaid new first.held held_after (lines_for [] s.asks ++ line ∷ []) →
    Stands items after new first (streams left held_after faults) waiting (least + 1)
answered_next brought waiting line before after items old new first left held held_after faults least s answers said =
    let ask = answers.0 in
    let P : List OutLine → Type 0 = λ lines. HasSaid new first.held held_after lines in
    record {
      bytes = s.bytes;
      read = s.read;
      given = s.given ++ brought ∷ [];
      taken = one_further items left s.bytes s.given waiting brought s.taken;
      asks = s.asks ++ ask ∷ [];
      asked = asks-joined s.given (brought ∷ []) s.asks (ask ∷ []) s.asked (answers.1, tt);
      changed = last_history s.asks ask before after line s.changed answers.2;
      said = subst P (last_line s.asks ask before after line s.changed answers.2) said;
      many = omega (arith, s.many, length-append s.given (brought ∷ []));
      counted = s.counted;
    }

-- the run is cut short at its line
cut_next : (brought : Item) (waiting : List Item) (line : OutLine) (before after : List Change) (items : Items) (old : Outgoing) (first : Streams)
    (left held held_after : Option (List ℕ)) (faults least : ℕ) (status : Status) → (s : Stands items before old first (streams left held faults) (brought ∷ waiting) least) →
    Answered brought before after line → IsCut status first.held held_after (lines_for [] s.asks ++ line ∷ []) →
    Ended status first (streams left held_after faults)
cut_next brought waiting line before after items old first left held held_after faults least status s answers cut =
    let ask = answers.0 in
    let P : List OutLine → Type 0 = λ lines. IsCut status first.held held_after lines in
    let asked = asks-joined s.given (brought ∷ []) s.asks (ask ∷ []) s.asked (answers.1, tt) in
    let taken = one_further items left s.bytes s.given waiting brought s.taken in
    cut_ended status first (streams left held_after faults) (lines_for [] (s.asks ++ ask ∷ []))
    (begins items first.left left s.bytes (s.given ++ brought ∷ []) waiting (s.asks ++ ask ∷ []) taken asked s.read)
    (subst P (last_line s.asks ask before after line s.changed answers.2) cut)

-- its line is said, or the run is cut short there
pub says_next : (brought : Item) (waiting : List Item) (line : OutLine) (result : Result (Unit {0}) Status) (before after : List Change) (items : Items)
    (old new : Outgoing) (first : Streams) (left held held_after : Option (List ℕ)) (faults least : ℕ) → SaysOn result old new held held_after (line ∷ []) →
    Stands items before old first (streams left held faults) (brought ∷ waiting) least → Answered brought before after line →
    OnOk result (Stands items after new first (streams left held_after faults) waiting (least + 1))
    × IfErr result (λ status. Ended status first (streams left held_after faults))
says_next brought waiting line (Ok u) before after items old new first left held held_after faults least says s answers =
    (answered_next brought waiting line before after items old new first left held held_after faults least s answers (says first.held (lines_for [] s.asks) s.said).0, tt)
says_next brought waiting line (Err status) before after items old new first left held held_after faults least says s answers =
    (tt, cut_next brought waiting line before after items old first left held held_after faults least status s answers (says first.held (lines_for [] s.asks) s.said).1)
