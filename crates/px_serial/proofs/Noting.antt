-- What the line of an item tells of the filters that are live behind it.
use Rattle.std.proofs.Common.{◌≡◌, ℕ, ◌+◌, ◌-◌, Bool, true, false, not, cond, List, [], ◌∷◌, ◌++◌, map, length, append-nil, Option, Some, None, Result, Ok, Err, IfOk, OnOk, IsOk, if◌then◌else◌, refl, ap, sym, ◌∙◌, subst}
use Rattle.std.specs.Prelude.{◌==◌}
use Rattle.std.proofs.lemmas.Bool.{eq-eqb}
use Rattle.std.proofs.lemmas.Option.{same_Some}
use Rattle.std.proofs.lemmas.List.{length-map}
use Rattle.std.proofs.lemmas.List.Elements.{filter-append}
use Rattle.px_text.specs.Nodes.{Root}
use Rattle.px_feed.specs.Items.{Item, Showing}
use Rattle.px_feed.specs.declared.item.Item.{Item as Given}
use Rattle.px_feed.specs.declared.line.OutLine.{OutLine}
use Rattle.px_feed.specs.declared.line.OutLine.TheVariants.{Added, AddTooLarge, AddNoVersions, Dropped, DropUnknown, DropNoVersions, Replaced, ReplaceUnknown, ReplaceTooLarge, ReplaceNoVersions, NoFilter, Matched}
use Rattle.px_feed.specs.declared.status.Status.{Status}
use Rattle.px_feed.specs.Outputs.{Ask, AsksAdd, AsksDrop, AsksReplace, AsksMatches, Reply, reply, reply_to_add, reply_to_drop, reply_to_replace, next_version, named_live, is_full, is_too_large}
use Rattle.px_tiers.specs.declared.tiers.Tiers.{Tiers}
use Rattle.px_tiers.specs.Parts.{others}
use Rattle.px_tiers.specs.Standings.{StandFor}
use Rattle.px_workload.specs.declared.change.Change.{Change}
use Rattle.px_workload.specs.Changes.{history, change}
use Rattle.px_workload.proofs.Growing.{live-grows}
use Rattle.px_xpath.specs.Filters.{Way}
use Rattle.px_xpath.specs.Histories.{Subscription, live, live_size, size, matches}
use Rattle.px_xpath.specs.Histories as histories
use Rattle.px_xpath.specs.declared.fault.FilterFault.{FilterFault}
use Rattle.px_serial.specs.declared.serving.Serving.{Serving}
use Rattle.px_serial.specs.Noting.{TellsOf}
use Rattle.px_lines.specs.Replying.{Answered}
use Rattle.px_serial.specs.Replying.{changed}
use Rattle.px_serial.specs.Standing.{KeepsUp}

no_none : (id : ℕ) → Some id ≡ None → ⊥
no_none id e = cc

-- A change leaves the filters of all other ids.
others_added : (id : ℕ) (new : Way) (list : List Subscription) → others id (list ++ record { id = id; filter = new } ∷ []) ≡ others id list
others_added id new list =
    filter-append (λ s. not (s.id == id)) list (record { id = id; filter = new } ∷ []) ∙ ap (λ (b : Bool). others id list ++ cond (not b) (record { id = id; filter = new } ∷ []) []) (eq-eqb id id refl)
    ∙ append-nil (others id list)

others_dropped : (id : ℕ) (list : List Subscription) → others id (others id list) ≡ others id list
others_dropped id [] = refl
others_dropped id (s ∷ list) = by (not (s.id == id)) refl (others_dropped id list)
  where
    by : (b : Bool) → not (s.id == id) ≡ b → others id (others id list) ≡ others id list →
        others id (cond b (s ∷ others id list) (others id list)) ≡ cond b (s ∷ others id list) (others id list)
    by true e h = rw e (ap (λ (rest : List Subscription). s ∷ rest) h)
    by false e h = h

others_replaced : (id : ℕ) (new : Way) (list : List Subscription) →
    others id (map (λ s. if s.id == id then record { id = id; filter = new } else s) list) ≡ others id list
others_replaced id new [] = refl
others_replaced id new (s ∷ list) = by (s.id == id) refl (others_replaced id new list)
  where
    by : (b : Bool) → (s.id == id) ≡ b → others id (map (λ s. if s.id == id then record { id = id; filter = new } else s) list) ≡ others id list →
        others id ((if b then record { id = id; filter = new } else s) ∷ map (λ s. if s.id == id then record { id = id; filter = new } else s) list) ≡ others id (s ∷ list)
    by true e h = rw (e, eq-eqb id id refl) h
    by false e h = rw e (ap (λ (rest : List Subscription). s ∷ rest) h)

-- The line names the id whose filter is another behind it, or the history is the same.
record Tells (line : OutLine) (before after : List histories.Change) : Type 0 where
  named : (id : ℕ) → changed line ≡ Some id → others id (live after) ≡ others id (live before)
  same : changed line ≡ None → after ≡ before

quiet : (line : OutLine) (h : List histories.Change) → Tells line h h
quiet line h = record { named = λ id e. refl; same = λ e. refl }

of_one : (line : OutLine) (id : ℕ) (h all : List histories.Change) → changed line ≡ Some id → others id (live all) ≡ others id (live h) → Tells line h all
of_one line id h all is others_stay = record {
  named = λ other e. let P : ℕ → Type 0 = λ n. others n (live all) ≡ others n (live h) in subst P (same_Some id other (sym is ∙ e)) others_stay;
  same = λ e. absurd (no_none id (sym is ∙ e));
}

abbrev TellsReply : List histories.Change → Reply → Type 0
TellsReply h replied = Tells replied.0 h replied.1

either : (test : Bool) (h : List histories.Change) (one other : Reply) → TellsReply h one → TellsReply h other → TellsReply h (if test then one else other)
either true h one other first second = first
either false h one other first second = second

add_tells : (h : List histories.Change) (parsed : Result Way FilterFault) → TellsReply h (reply_to_add h parsed)
add_tells h (Err fault) = quiet (NoFilter fault) h
add_tells h (Ok new) =
    let now = live_size (live h) in
    let id = next_version h in
    let all = h ++ histories.Adds 0 new ∷ [] in
    let stay = ap (others id) (live-grows h (histories.Adds 0 new)) ∙ others_added id new (live h) in
    let accepted = of_one (Added id) id h all refl stay in
    let full = either (is_full h) h (AddNoVersions, h) (Added id, all) (quiet AddNoVersions h) accepted in
    either (is_too_large (now + size new)) h (AddTooLarge now, h) _ (quiet (AddTooLarge now) h) full

drop_tells : (h : List histories.Change) (named : Option Subscription) → TellsReply h (reply_to_drop h named)
drop_tells h None = quiet DropUnknown h
drop_tells h (Some s) =
    let all = h ++ histories.Drops 0 s.id ∷ [] in
    let line = Dropped s.id (next_version h) in
    let stay = ap (others s.id) (live-grows h (histories.Drops 0 s.id)) ∙ others_dropped s.id (live h) in
    either (is_full h) h (DropNoVersions, h) (line, all) (quiet DropNoVersions h) (of_one line s.id h all refl stay)

replace_tells : (h : List histories.Change) (named : Option Subscription) (parsed : Result Way FilterFault) → TellsReply h (reply_to_replace h named parsed)
replace_tells h named (Err fault) = quiet (NoFilter fault) h
replace_tells h None (Ok new) = quiet ReplaceUnknown h
replace_tells h (Some s) (Ok new) =
    let rest = live_size (live h) - size s.filter in
    let all = h ++ histories.Replaces 0 s.id new ∷ [] in
    let line = Replaced s.id (next_version h) in
    let stay = ap (others s.id) (live-grows h (histories.Replaces 0 s.id new)) ∙ others_replaced s.id new (live h) in
    let full = either (is_full h) h (ReplaceNoVersions, h) (line, all) (quiet ReplaceNoVersions h) (of_one line s.id h all refl stay) in
    either (is_too_large (rest + size new)) h (ReplaceTooLarge rest, h) _ (quiet (ReplaceTooLarge rest) h) full

tells : (h : List histories.Change) (ask : Ask) → TellsReply h (reply h ask)
tells h (AsksAdd parsed) = add_tells h parsed
tells h (AsksDrop id) = drop_tells h (named_live h id)
tells h (AsksReplace id parsed) = replace_tells h (named_live h id) parsed
tells h (AsksMatches root) = quiet (Matched (length h) (matches h root)) h

answer_tells : (item : Item) (before after : List Change) (line : OutLine) → Answered item before after line → Tells line (history before) (history after)
answer_tells item before after line (ask, asks, replied) =
    let P : Reply → Type 0 = λ r. Tells r.0 (history before) r.1 in subst P replied (tells (history before) ask)

-- the tiers are told of the id that a line names
pub note_one : {E : Type 0} (result : Result (Unit {0}) E) (old new : Tiers) (line : OutLine) (id : ℕ) → Some id ≡ changed line →
    OnOk result ((before after : List Subscription) → StandFor old before → others id after ≡ others id before → StandFor new after) → OnOk result (TellsOf line old new)
note_one (Ok u) old new line id is h = λ item before after answered stand.
    h (live (history before)) (live (history after)) stand ((answer_tells item before after line answered).named id (sym is))
note_one (Err e) old new line id is h = tt

-- a line that names none tells nothing
pub note_none : (tiers : Tiers) (line : OutLine) → None ≡ changed line → TellsOf line tiers tiers
note_none tiers line is = λ item before after answered stand.
    let P : List histories.Change → Type 0 = λ h. StandFor tiers (live h) in
    subst P (sym ((answer_tells item before after line answered).same (sym is))) stand

-- a line that is handed on answers what it answered
pub same_answers : {E F : Type 0} (line : Result OutLine E) (noted : Result OutLine F) (item : Item) (before after : List Change) → IfOk noted (λ one. line ≡ Ok one) →
    IfOk line (λ one. Answered item before after one) → IfOk noted (λ one. Answered item before after one)
same_answers {E = E} line (Ok one) item before after same h =
    let P : Result OutLine E → Type 0 = λ found. IfOk found (λ found. Answered item before after found) in subst P same h
same_answers line (Err e) item before after same h = tt

-- The line was said, so the tiers stand for what is live behind it.
pub kept_up : {E : Type 0} (line : Result OutLine E) (result : Result Given Status) (told : Tiers) (changes : List Change) (new : Serving) → OnOk result (IsOk line) →
    OnOk line (StandFor told (live (history changes))) → new.tiers ≡ told → new.journal.changes ≡ changes → OnOk result (KeepsUp new)
kept_up (Ok one) (Ok next) told changes new spoken stand same_tiers same_changes =
    let P : Tiers → Type 0 = λ tiers. StandFor tiers (live (history changes)) in
    let Q : List Change → Type 0 = λ all. StandFor new.tiers (live (history all)) in
    subst Q (sym same_changes) (subst P (sym same_tiers) stand)
kept_up (Err e) (Ok next) told changes new spoken stand same_tiers same_changes = absurd (cc)
kept_up line (Err status) told changes new spoken stand same_tiers same_changes = tt

told_of : {E : Type 0} (noted : Result OutLine E) (item : Item) (old told : Tiers) (before after : List Change) → IfOk noted (λ one. Answered item before after one) →
    IfOk noted (λ one. TellsOf one old told) → StandFor old (live (history before)) → OnOk noted (StandFor told (live (history after)))
told_of (Ok one) item old told before after answered tell stand = tell item before after answered stand
told_of (Err e) item old told before after answered tell stand = tt

-- the same of a change, of which they were told
pub change_kept_up : {E : Type 0} (noted : Result OutLine E) (item : Item) (result : Result Given Status) (old told : Tiers) (before after : List Change) (new : Serving) →
    OnOk result (IsOk noted) → IfOk noted (λ one. Answered item before after one) → IfOk noted (λ one. TellsOf one old told) → StandFor old (live (history before)) →
    new.tiers ≡ told → new.journal.changes ≡ after → OnOk result (KeepsUp new)
change_kept_up noted item result old told before after new spoken answered tell stand same_tiers same_changes =
    kept_up noted result told after new spoken (told_of noted item old told before after answered tell stand) same_tiers same_changes

-- before the first change
pub begun_up : (tiers : Tiers) (changes : List Change) → changes ≡ [] → StandFor tiers [] → StandFor tiers (live (history changes))
begun_up tiers changes none stand = let P : List Change → Type 0 = λ all. StandFor tiers (live (history all)) in subst P (sym none) stand

-- nothing was changed
pub still_up : (old new : Serving) → new.journal.changes ≡ old.journal.changes → new.tiers ≡ old.tiers → KeepsUp old → KeepsUp new
still_up old new same_changes same_tiers stand =
    let P : Tiers → Type 0 = λ tiers. StandFor tiers (live (history old.journal.changes)) in
    let Q : List Change → Type 0 = λ changes. StandFor new.tiers (live (history changes)) in
    subst Q (sym same_changes) (subst P (sym same_tiers) stand)

-- the line of a document says which filters match
pub matched_line : (changes : List Change) (root : Root) (version : ℕ) (ids : List ℕ) → version ≡ length changes → ids ≡ matches (history changes) root →
    Answered (Showing root) changes changes (Matched version ids)
matched_line changes root version ids counted are =
    let versions : length (history changes) ≡ version = length-map changes change ∙ sym counted in (
      AsksMatches root,
      refl,
      ap (λ n. (Matched n (matches (history changes) root), history changes)) versions ∙ ap (λ found. (Matched version found, history changes)) (sym are),
    )
