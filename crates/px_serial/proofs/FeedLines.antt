-- The line for the item that a run of `serial` has in hand: it is found, and said.
use Rattle.std.proofs.Common.{◌≡◌, ℕ, ◌+◌, List, [], ◌∷◌, Option, Result, Ok, Err, IfOk, OnOk, IfErr, ap, sym, ◌∙◌, subst}
use Rattle.px_text.specs.Nodes.{Root}
use Rattle.px_reader.specs.declared.doc.Doc.{Doc}
use Rattle.px_feed.specs.declared.feed.Items.{Items}
use Rattle.px_feed.specs.declared.item.Item.{Item as Given}
use Rattle.px_feed.specs.declared.item.Item.TheVariants as items
use Rattle.px_feed.specs.declared.line.OutLine.{OutLine}
use Rattle.px_feed.specs.declared.status.Status.{Status}
use Rattle.px_feed.specs.declared.status.Status.TheVariants.{Memory}
use Rattle.px_feed.specs.Items.{Item, Adding, Removing, Replacing, Showing}
use Rattle.px_workload.specs.declared.change.Change.{Change}
use Rattle.px_lines.specs.declared.outgoing.Outgoing.{Outgoing}
use Rattle.px_serial.specs.declared.serving.Serving.{Serving}
use Rattle.px_lines.specs.Replying.{Answered}
use Rattle.px_lines.specs.Standing.{Streams, streams, Stands, Ended}
use Rattle.px_serial.specs.Standing.{Holds, HasLine}
use Rattle.px_lines.specs.Replying.{IsOf}
use Rattle.px_lines.specs.Waiting.{SaysOn}
use Rattle.px_lines.proofs.FeedItems.{is_adding, is_removing, is_replacing, is_showing}
use Rattle.px_lines.proofs.FeedLines.{says_next}
use Rattle.px_lines.proofs.FeedStands.{stands_memory}

-- the line of an item that the feed gave
has_line : {E : Type 0} (item : Item) (line : Result OutLine E) (old new : Serving) (first now : Streams) (least : ℕ) → new.items ≡ old.items →
    new.outgoing ≡ old.outgoing → Stands old.items old.journal.changes old.outgoing first now (item ∷ []) least →
    IfOk line (λ one. Answered item old.journal.changes new.journal.changes one) → HasLine line new first now least
has_line item line old new first now least same_items same_outgoing s answers =
    let P : Items → Type 0 = λ items. Stands items old.journal.changes old.outgoing first now (item ∷ []) least in
    let Q : Outgoing → Type 0 = λ outgoing. Stands new.items old.journal.changes outgoing first now (item ∷ []) least in
    record { before = old.journal.changes; brought = item; stands = subst Q (sym same_outgoing) (subst P (sym same_items) s); answers = answers }

-- the same with the item that the program has in hand
brought_line : {E : Type 0} (given : Given) (item : Item) (line : Result OutLine E) (old new : Serving) (first now : Streams) (least : ℕ) →
    (h : Holds given old first now least) → h.0 ≡ item → new.items ≡ old.items → new.outgoing ≡ old.outgoing →
    IfOk line (λ one. Answered item old.journal.changes new.journal.changes one) → HasLine line new first now least
brought_line given item line old new first now least h is same_items same_outgoing answers =
    let P : Item → Type 0 = λ one. Stands old.items old.journal.changes old.outgoing first now (one ∷ []) least in
    has_line item line old new first now least same_items same_outgoing (subst P is h.2) answers

pub line_of_add : {E : Type 0} (text seen : List ℕ) (line : Result OutLine E) (old new : Serving) (first now : Streams) (least : ℕ) → new.items ≡ old.items →
    new.outgoing ≡ old.outgoing → seen ≡ text → IfOk line (λ one. Answered (Adding seen) old.journal.changes new.journal.changes one) →
    Holds (items.Add text) old first now least → HasLine line new first now least
line_of_add text seen line old new first now least same_items same_outgoing same answers h =
    brought_line (items.Add text) (Adding seen) line old new first now least h (is_adding text h.0 h.1 ∙ ap Adding (sym same)) same_items same_outgoing answers

pub line_of_remove : {E : Type 0} (text seen : List ℕ) (line : Result OutLine E) (old new : Serving) (first now : Streams) (least : ℕ) → new.items ≡ old.items →
    new.outgoing ≡ old.outgoing → seen ≡ text → IfOk line (λ one. Answered (Removing seen) old.journal.changes new.journal.changes one) →
    Holds (items.Remove text) old first now least → HasLine line new first now least
line_of_remove text seen line old new first now least same_items same_outgoing same answers h =
    brought_line (items.Remove text) (Removing seen) line old new first now least h (is_removing text h.0 h.1 ∙ ap Removing (sym same)) same_items same_outgoing answers

pub line_of_replace : {E : Type 0} (name text name_seen seen : List ℕ) (line : Result OutLine E) (old new : Serving) (first now : Streams) (least : ℕ) →
    new.items ≡ old.items → new.outgoing ≡ old.outgoing → name_seen ≡ name → seen ≡ text →
    IfOk line (λ one. Answered (Replacing name_seen seen) old.journal.changes new.journal.changes one) →
    Holds (items.Replace name text) old first now least → HasLine line new first now least
line_of_replace name text name_seen seen line old new first now least same_items same_outgoing same_name same answers h =
    let is = is_replacing name text h.0 h.1 ∙ ap (λ (one : List ℕ). Replacing one text) (sym same_name) ∙ ap (Replacing name_seen) (sym same) in
    brought_line (items.Replace name text) (Replacing name_seen seen) line old new first now least h is same_items same_outgoing answers

pub line_of_document : {E : Type 0} (doc : Doc) (line : Result OutLine E) (old new : Serving) (first now : Streams) (least : ℕ) → new.items ≡ old.items →
    new.outgoing ≡ old.outgoing → new.journal.changes ≡ old.journal.changes →
    ((root : Root) → IsOf doc root → IfOk line (λ one. Answered (Showing root) old.journal.changes old.journal.changes one)) →
    Holds (items.Document doc) old first now least → HasLine line new first now least
line_of_document {E = E} doc line old new first now least same_items same_outgoing same_changes answers h =
    let shown = is_showing doc h.0 h.1 in
    let P : List Change → Type 0 = λ changes. IfOk line (λ one. Answered (Showing shown.0) old.journal.changes changes one) in
    brought_line (items.Document doc) (Showing shown.0) line old new first now least h shown.1 same_items same_outgoing (subst P (sym same_changes) (answers shown.0 shown.2))

pub says_line : {E : Type 0} (line : Result OutLine E) (one : OutLine) (result : Result (Unit {0}) Status) (serving : Serving) (outgoing : Outgoing) (first : Streams)
    (left held after : Option (List ℕ)) (faults least : ℕ) → line ≡ Ok one → SaysOn result serving.outgoing outgoing held after (one ∷ []) →
    HasLine line serving first (streams left held faults) least →
    OnOk result (Stands serving.items serving.journal.changes outgoing first (streams left after faults) [] (least + 1))
    × IfErr result (λ status. Ended status first (streams left after faults))
says_line {E = E} line one result serving outgoing first left held after faults least e says h =
    let P : Result OutLine E → Type 0 = λ found. IfOk found (λ found. Answered h.brought h.before serving.journal.changes found) in
    says_next h.brought [] one result h.before serving.journal.changes serving.items serving.outgoing outgoing first left held after faults least says h.stands (subst P e h.answers)

-- there was no memory for its line
pub line_memory : {E : Type 0} (line : Result OutLine E) (refused : E) (serving : Serving) (first now : Streams) (least : ℕ) → line ≡ Err refused →
    HasLine line serving first now least → Ended Memory first now
line_memory line refused serving first now least e h =
    stands_memory serving.items h.before serving.outgoing first now (h.brought ∷ []) least h.stands
