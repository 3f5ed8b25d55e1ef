-- What changes are replied, and when they may come.
use Rattle.std.proofs.Common.{◌≡◌, ℕ, ◌+◌, ◌-◌, Bool, true, false, List, [], ◌∷◌, ◌++◌, length, length-append, find, Option, Some, None, Ok, Err, Result, IfOk, ◌⊎◌, inl, inr, eqb, refl, ap, sym, ◌∙◌, subst, arith}
use Rattle.std.proofs.lemmas.Bool.{eqb-true}
use Rattle.std.proofs.lemmas.Option.{same_Some}
use Rattle.std.proofs.lemmas.List.{length-map, map-append}
use Rattle.px_feed.specs.declared.line.OutLine.{OutLine}
use Rattle.px_feed.specs.declared.line.OutLine.TheVariants.{Added, Dropped, Replaced}
use Rattle.px_feed.specs.Items.{Adding, Removing, Replacing}
use Rattle.px_feed.specs.Outputs.{AsksAdd, AsksDrop, AsksReplace, id_of, reply_to_add, reply_to_drop, reply_to_replace, is_full, is_too_large, next_version}
use Rattle.px_workload.specs.declared.change.Change.{Change}
use Rattle.px_workload.specs.declared.refusal.Refusal.{Refusal}
use Rattle.px_workload.specs.declared.refusal.Refusal.TheVariants.{Unknown, TooLarge, NoVersions}
use Rattle.px_workload.specs.Changes.{change, history}
use Rattle.px_workload.specs.Refusals.{refusal, refuses_all, refuses_beside, refuses_drop, refuses_replacement}
use Rattle.px_xpath.specs.declared.fault.ParseFault.{ParseFault}
use Rattle.px_xpath.specs.declared.fault.ParseFault.TheVariants as fault
use Rattle.px_xpath.specs.Faults.{IsText}
use Rattle.px_xpath.specs.Filters.{Way}
use Rattle.px_xpath.specs.Histories as histories
use Rattle.px_xpath.specs.Histories.{Subscription, live, live_size, size, is_of, IsLegal}
use Rattle.px_xpath.specs.Parses.{IsRefused}
use Rattle.px_lines.specs.Replying.{Answered, Replies}
use Rattle.px_serial.specs.Replying.{IsLineOf, IsAddRefused, IsDropRefused, IsReplaceRefused}

-- an answer to what an item asks
pub answers_add : {E : Type 0} (text : List ℕ) (way : Way) (before after : List Change) (result : Result OutLine E) → IsText text way →
    IfOk result (λ line. Replies (AsksAdd (Ok way)) before after line) → IfOk result (λ line. Answered (Adding text) before after line)
answers_add text way before after (Ok line) parsed replies = (AsksAdd (Ok way), parsed, replies)
answers_add text way before after (Err e) parsed replies = replies

pub refuses_add : {E : Type 0} (text : List ℕ) (found : ParseFault) (before : List Change) (result : Result OutLine E) → IsRefused text found →
    IfOk result (λ line. IsLineOf found line) → IfOk result (λ line. Answered (Adding text) before before line)
refuses_add text (fault.Filter found) before (Ok line) refused e = (AsksAdd (Err found), refused, ap (λ l. (l, history before)) (sym e))
refuses_add text fault.Memory before (Ok line) refused e = absurd e
refuses_add text found before (Err e) refused h = h

pub answers_drop : {E : Type 0} (text : List ℕ) (id : Option ℕ) (before after : List Change) (result : Result OutLine E) → id ≡ id_of text →
    IfOk result (λ line. Replies (AsksDrop id) before after line) → IfOk result (λ line. Answered (Removing text) before after line)
answers_drop text id before after (Ok line) named replies = (AsksDrop id, named, replies)
answers_drop text id before after (Err e) named replies = replies

pub answers_replace : {E : Type 0} (name text : List ℕ) (id : Option ℕ) (way : Way) (before after : List Change) (result : Result OutLine E) →
    id ≡ id_of name → IsText text way → IfOk result (λ line. Replies (AsksReplace id (Ok way)) before after line) →
    IfOk result (λ line. Answered (Replacing name text) before after line)
answers_replace name text id way before after (Ok line) named parsed replies = (AsksReplace id (Ok way), (named, parsed), replies)
answers_replace name text id way before after (Err e) named parsed replies = replies

pub refuses_replace : {E : Type 0} (name text : List ℕ) (found : ParseFault) (before : List Change) (result : Result OutLine E) → IsRefused text found →
    IfOk result (λ line. IsLineOf found line) → IfOk result (λ line. Answered (Replacing name text) before before line)
refuses_replace name text (fault.Filter found) before (Ok line) refused e =
    (AsksReplace (id_of name) (Err found), (refl, refused), ap (λ l. (l, history before)) (sym e))
refuses_replace name text fault.Memory before (Ok line) refused e = absurd e
refuses_replace name text found before (Err e) refused h = h

-- what is found under an id has it
has_id : (id : ℕ) (filters : List Subscription) (s : Subscription) → find (is_of id) filters ≡ Some s → s.id ≡ id
has_id id [] s e = absurd (cc)
has_id id (x ∷ filters) s e = on (has_id id filters s) (eqb x.id id) refl
  where
    on : (find (is_of id) filters ≡ Some s → s.id ≡ id) → (b : Bool) → eqb x.id id ≡ b → s.id ≡ id
    on here true same = let f : Some x ≡ Some s = rw same at e in let g : x ≡ s = cc in ap (λ t. t.id) (sym g) ∙ eqb-true x.id id same
    on here false other = let f : find (is_of id) filters ≡ Some s = rw other at e in here f

-- a filter beside others: too large, no version left, or neither
beside : (h : List histories.Change) (others : ℕ) (way : Way) (r : Option Refusal) → r ≡ refuses_beside h others way →
    ((r ≡ Some (TooLarge others)) × (is_too_large (others + size way) ≡ true))
    ⊎ (((r ≡ Some NoVersions) × (is_too_large (others + size way) ≡ false) × (is_full h ≡ true)) ⊎ ((r ≡ None) × (is_too_large (others + size way) ≡ false) × (is_full h ≡ false)))
beside h others way r e = go (is_too_large (others + size way)) (is_full h) refl refl
  where
    go : (large full : Bool) → is_too_large (others + size way) ≡ large → is_full h ≡ full →
        ((r ≡ Some (TooLarge others)) × (is_too_large (others + size way) ≡ true))
        ⊎ (((r ≡ Some NoVersions) × (is_too_large (others + size way) ≡ false) × (is_full h ≡ true)) ⊎ ((r ≡ None) × (is_too_large (others + size way) ≡ false) × (is_full h ≡ false)))
    go true full f g = inl (e ∙ rw f refl, f)
    go false true f g = inr (inl (e ∙ rw (f, g) refl, f, g))
    go false false f g = inr (inr (e ∙ rw (f, g) refl, f, g))

-- any change: no version left, or one
at_end : (h : List histories.Change) (r : Option Refusal) → r ≡ refuses_all h → ((r ≡ Some NoVersions) × (is_full h ≡ true)) ⊎ ((r ≡ None) × (is_full h ≡ false))
at_end h r e = go (is_full h) refl
  where
    go : (full : Bool) → is_full h ≡ full → ((r ≡ Some NoVersions) × (is_full h ≡ true)) ⊎ ((r ≡ None) × (is_full h ≡ false))
    go true g = inl (e ∙ rw g refl, g)
    go false g = inr (e ∙ rw g refl, g)

no_none : {A : Type 0} (x : A) → Some x ≡ None → ⊥
no_none x e = cc

-- an add that is refused
pub add_refused : (h : List histories.Change) (way : Way) (r : Refusal) (line : OutLine) → Some r ≡ refusal h (histories.Adds 0 way) → IsAddRefused r line →
    reply_to_add h (Ok way) ≡ (line, h)
add_refused h way r line e is =
    elim (beside h (live_size (live h)) way (Some r) e) [
      | inl p ↦ rw p.1 (ap (λ (l : OutLine). (l, h)) (sym (as_line (TooLarge (live_size (live h))) p.0)))
      | inr (inl p) ↦ rw (p.1, p.2) (ap (λ (l : OutLine). (l, h)) (sym (as_line NoVersions p.0)))
      | inr (inr p) ↦ absurd (no_none r p.0)
    ]
  where
    as_line : (found : Refusal) → Some r ≡ Some found → IsAddRefused found line
    as_line found same = subst (λ (one : Refusal). IsAddRefused one line) (same_Some r found same) is

-- it is none for an id
pub add_known : (h : List histories.Change) (way : Way) (r : Refusal) → Some r ≡ refusal h (histories.Adds 0 way) → r ≡ Unknown → ⊥
add_known h way r e is =
    elim (beside h (live_size (live h)) way (Some r) e) [
      | inl p ↦ let one = p.0 in cc
      | inr (inl p) ↦ let one = p.0 in cc
      | inr (inr p) ↦ let one = p.0 in cc
    ]

-- an add that comes
pub added : (h : List histories.Change) (way : Way) (version : ℕ) → refusal h (histories.Adds 0 way) ≡ None → version ≡ next_version h →
    reply_to_add h (Ok way) ≡ (Added version, h ++ histories.Adds 0 way ∷ [])
added h way version e v =
    elim (beside h (live_size (live h)) way None (sym e)) [
      | inl p ↦ absurd (no_none (TooLarge (live_size (live h))) (sym p.0))
      | inr (inl p) ↦ absurd (no_none NoVersions (sym p.0))
      | inr (inr p) ↦ rw (p.1, p.2, v) refl
    ]

-- a drop that is refused
pub drop_refused : (h : List histories.Change) (id : ℕ) (r : Refusal) (line : OutLine) → Some r ≡ refusal h (histories.Drops 0 id) → IsDropRefused r line →
    reply_to_drop h (find (is_of id) (live h)) ≡ (line, h)
drop_refused h id r line e is = go (find (is_of id) (live h)) e
  where
    as_line : (found : Refusal) → Some r ≡ Some found → IsDropRefused found line
    as_line found same = subst (λ (one : Refusal). IsDropRefused one line) (same_Some r found same) is

    go : (named : Option Subscription) → Some r ≡ refuses_drop h named → reply_to_drop h named ≡ (line, h)
    go None e = ap (λ (l : OutLine). (l, h)) (sym (as_line Unknown e))
    go (Some s) e =
        elim (at_end h (Some r) e) [
          | inl p ↦ rw p.1 (ap (λ (l : OutLine). (l, h)) (sym (as_line NoVersions p.0)))
          | inr p ↦ absurd (no_none r p.0)
        ]

-- it is none for a size
pub drop_small : (h : List histories.Change) (id : ℕ) (r : Refusal) → Some r ≡ refusal h (histories.Drops 0 id) → (live : ℕ) → r ≡ TooLarge live → ⊥
drop_small h id r e n is = go (find (is_of id) (live h)) e
  where
    go : (named : Option Subscription) → Some r ≡ refuses_drop h named → ⊥
    go None e = cc
    go (Some s) e =
        elim (at_end h (Some r) e) [
          | inl p ↦ let one = p.0 in cc
          | inr p ↦ let one = p.0 in cc
        ]

-- a drop that comes
pub dropped : (h : List histories.Change) (id version : ℕ) → refusal h (histories.Drops 0 id) ≡ None → version ≡ next_version h →
    reply_to_drop h (find (is_of id) (live h)) ≡ (Dropped id version, h ++ histories.Drops 0 id ∷ [])
dropped h id version e v = go (find (is_of id) (live h)) (has_id id (live h)) e
  where
    go : (named : Option Subscription) → ((s : Subscription) → named ≡ Some s → s.id ≡ id) → refuses_drop h named ≡ None →
        reply_to_drop h named ≡ (Dropped id version, h ++ histories.Drops 0 id ∷ [])
    go None has e = absurd (no_none Unknown e)
    go (Some s) has e =
        elim (at_end h None (sym e)) [
          | inl p ↦ absurd (no_none NoVersions (sym p.0))
          | inr p ↦ subst (λ (n : ℕ). reply_to_drop h (Some s) ≡ (Dropped n version, h ++ histories.Drops 0 n ∷ [])) (has s refl) (rw (p.1, v) refl)
        ]

-- a replacement that is refused
pub replace_refused : (h : List histories.Change) (way : Way) (id : ℕ) (r : Refusal) (line : OutLine) → Some r ≡ refusal h (histories.Replaces 0 id way) → IsReplaceRefused r line →
    reply_to_replace h (find (is_of id) (live h)) (Ok way) ≡ (line, h)
replace_refused h way id r line e is = go (find (is_of id) (live h)) e
  where
    as_line : (found : Refusal) → Some r ≡ Some found → IsReplaceRefused found line
    as_line found same = subst (λ (one : Refusal). IsReplaceRefused one line) (same_Some r found same) is

    go : (named : Option Subscription) → Some r ≡ refuses_replacement h named way → reply_to_replace h named (Ok way) ≡ (line, h)
    go None e = ap (λ (l : OutLine). (l, h)) (sym (as_line Unknown e))
    go (Some s) e =
        elim (beside h (live_size (live h) - size s.filter) way (Some r) e) [
          | inl p ↦ rw p.1 (ap (λ (l : OutLine). (l, h)) (sym (as_line (TooLarge (live_size (live h) - size s.filter)) p.0)))
          | inr (inl p) ↦ rw (p.1, p.2) (ap (λ (l : OutLine). (l, h)) (sym (as_line NoVersions p.0)))
          | inr (inr p) ↦ absurd (no_none r p.0)
        ]

-- a replacement that comes
pub replaced : (h : List histories.Change) (way : Way) (id version : ℕ) → refusal h (histories.Replaces 0 id way) ≡ None → version ≡ next_version h →
    reply_to_replace h (find (is_of id) (live h)) (Ok way) ≡ (Replaced id version, h ++ histories.Replaces 0 id way ∷ [])
replaced h way id version e v = go (find (is_of id) (live h)) (has_id id (live h)) e
  where
    go : (named : Option Subscription) → ((s : Subscription) → named ≡ Some s → s.id ≡ id) → refuses_replacement h named way ≡ None →
        reply_to_replace h named (Ok way) ≡ (Replaced id version, h ++ histories.Replaces 0 id way ∷ [])
    go None has e = absurd (no_none Unknown e)
    go (Some s) has e =
        elim (beside h (live_size (live h) - size s.filter) way None (sym e)) [
          | inl p ↦ absurd (no_none (TooLarge (live_size (live h) - size s.filter)) (sym p.0))
          | inr (inl p) ↦ absurd (no_none NoVersions (sym p.0))
          | inr (inr p) ↦ subst (λ (n : ℕ). reply_to_replace h (Some s) (Ok way) ≡ (Replaced n version, h ++ histories.Replaces 0 n way ∷ [])) (has s refl) (rw (p.1, p.2, v) refl)
        ]

-- the history behind one change more, and its version
pub behind : (before now all : List Change) (c : Change) → now ≡ before → all ≡ now ++ c ∷ [] → history all ≡ history before ++ change c ∷ []
behind before now all c same e = ap history e ∙ map-append change now (c ∷ []) ∙ ap (λ (cs : List Change). history cs ++ change c ∷ []) same

pub counted : (before now all : List Change) (c : Change) (version : ℕ) → now ≡ before → all ≡ now ++ c ∷ [] → version ≡ length all → version ≡ next_version (history before)
counted before now all c version same e v =
    let all_are = ap length e in let one_more = length-append now (c ∷ []) in
    let as_before = ap length same in let mapped = length-map before change in omega arith

-- a change that may come, where the journal has made room
pub may_come : (before now : List Change) (c : Change) → now ≡ before → IsLegal (history (before ++ c ∷ [])) → IsLegal (history (now ++ c ∷ []))
may_come before now c same legal = let P : List Change → Type 0 = λ cs. IsLegal (history (cs ++ c ∷ [])) in subst P (sym same) legal
