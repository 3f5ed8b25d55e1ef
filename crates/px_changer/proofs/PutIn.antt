-- What a hub answers to a replacement is what a feed is answered, where one pass makes all changes.
use Rattle.std.proofs.Common.{◌≡◌, ℕ, ◌+◌, ◌-◌, ◌≤◌, ◌<◌, true, false, List, [], ◌∷◌, ◌++◌, length, find, Option, Some, None, Ok, Err, Result, IfSome, refl, ap, sym, ◌∙◌, subst, arith}
use Rattle.std.specs.Prelude.{IsSome, IfOk}
use Rattle.px_feed.specs.declared.line.OutLine.{OutLine}
use Rattle.px_feed.specs.declared.line.OutLine.TheVariants.{Replaced, ReplaceUnknown, ReplaceTooLarge, ReplaceNoVersions, NoFilter}
use Rattle.px_feed.specs.Outputs.{AsksReplace, reply_to_replace, is_full, is_too_large}
use Rattle.px_workload.specs.declared.change.Change.{Change}
use Rattle.px_workload.specs.declared.change.Change.TheVariants.{Replace}
use Rattle.px_workload.specs.Changes.{history}
use Rattle.px_workload.proofs.Climbing.{live-rising}
use Rattle.px_xpath.specs.declared.fault.ParseFault.{ParseFault}
use Rattle.px_xpath.specs.declared.fault.ParseFault.TheVariants as parse
use Rattle.px_xpath.specs.Faults.{IsText}
use Rattle.px_xpath.specs.Parses.{IsRefused}
use Rattle.px_xpath.specs.Filters.{Way}
use Rattle.px_xpath.specs.Whole as whole
use Rattle.px_xpath.specs.Histories as histories
use Rattle.px_xpath.specs.Histories.{Subscription, live, live_size, size, is_of, IsLive, IsLegal}
use Rattle.px_hub.specs.declared.faults.ReplaceFault.{ReplaceFault}
use Rattle.px_hub.specs.declared.faults.ReplaceFault.TheVariants as replace
use Rattle.px_hub.specs.Passes.{PassView}
use Rattle.px_hub.specs.Calls.{CaughtUp, Accepted, seen_of, size_beside, live_behind}
use Rattle.px_hub.specs.Calls as calls
use Rattle.px_hub.proofs.Beside.{beside}
use Rattle.px_changer.specs.Alone.{AllBy}
use Rattle.px_changer.specs.Telling.{all_anonymous, told}
use Rattle.px_changer.specs.Lines.{IsLineOfReplacement, IsLineOfFault, AnsweredNamed}
use Rattle.px_changer.proofs.Owning.{caught_alone, accepted_alone}
use Rattle.px_changer.proofs.Anonymous.{same_live, same_length}
use Rattle.px_changer.proofs.Replied.{small, large, roomy, full, has_id, replied, same_told, told_more, one_longer, told_live, live_told}

-- the size of the others, by the filter that is found under the id
abbrev AreOthers : ℕ → ℕ → List Subscription → Type 0
AreOthers id others filters = (s : Subscription) → find (is_of id) filters ≡ Some s → live_size filters - size s.filter ≡ others

others_are : (id : ℕ) (seen : List Change) → IsLegal (history seen) → AreOthers id (size_beside id seen) (live (history (all_anonymous seen)))
others_are id seen legal s found =
    let f : find (is_of id) (live_behind seen) ≡ Some s = ap (find (is_of id)) (sym (same_live seen)) ∙ found in
    let there : IsLive id (live_behind seen) = rw f refl in
    let sized : IfSome (find (is_of id) (live_behind seen)) (λ t. size s.filter ≡ size t.filter) = rw f refl in
    let sum = beside id (size s.filter) (live_behind seen) (live-rising (history seen) legal) there sized in
    let all = ap live_size (same_live seen) in omega arith

module _ (h : List histories.Change) (id others : ℕ) (way : Way) (are : AreOthers id others (live h)) where
  put_comes : (version : ℕ) → IsLive id (live h) → others + size way ≤ 500_000 → length h + 1 ≤ 1_048_575 → version ≡ length h + 1 →
      reply_to_replace h (find (is_of id) (live h)) (Ok way) ≡ (Replaced id version, h ++ histories.Replaces 0 id way ∷ [])
  put_comes version is_live fits room e = go (find (is_of id) (live h)) is_live are (has_id id (live h))
    where
      go : (named : Option Subscription) → IsSome named → ((s : Subscription) → named ≡ Some s → live_size (live h) - size s.filter ≡ others) →
          ((s : Subscription) → named ≡ Some s → s.id ≡ id) → reply_to_replace h named (Ok way) ≡ (Replaced id version, h ++ histories.Replaces 0 id way ∷ [])
      go None there sized has = absurd (cc)
      go (Some s) there sized has =
          let t : is_too_large (others + size way) ≡ false = small 500_000 (others + size way) fits in
          let r : is_full h ≡ false = roomy 1_048_575 (length h) room in
          subst (λ (n : ℕ). reply_to_replace h (Some s) (Ok way) ≡ (Replaced n version, h ++ histories.Replaces 0 n way ∷ [])) (has s refl) (rw (sized s refl, t, r, e) refl)

  put_large : IsLive id (live h) → 500_000 < others + size way → reply_to_replace h (find (is_of id) (live h)) (Ok way) ≡ (ReplaceTooLarge others, h)
  put_large is_live big = go (find (is_of id) (live h)) is_live are
    where
      go : (named : Option Subscription) → IsSome named → ((s : Subscription) → named ≡ Some s → live_size (live h) - size s.filter ≡ others) →
          reply_to_replace h named (Ok way) ≡ (ReplaceTooLarge others, h)
      go None there sized = absurd (cc)
      go (Some s) there sized = let t : is_too_large (others + size way) ≡ true = large 500_000 (others + size way) big in rw (sized s refl, t) refl

  put_full : IsLive id (live h) → others + size way ≤ 500_000 → length h ≡ 1_048_575 → reply_to_replace h (find (is_of id) (live h)) (Ok way) ≡ (ReplaceNoVersions, h)
  put_full is_live fits e = go (find (is_of id) (live h)) is_live are
    where
      go : (named : Option Subscription) → IsSome named → ((s : Subscription) → named ≡ Some s → live_size (live h) - size s.filter ≡ others) →
          reply_to_replace h named (Ok way) ≡ (ReplaceNoVersions, h)
      go None there sized = absurd (cc)
      go (Some s) there sized =
          let t : is_too_large (others + size way) ≡ false = small 500_000 (others + size way) fits in
          let r : is_full h ≡ true = full 1_048_575 (length h) e in rw (sized s refl, t, r) refl

put_unknown : (h : List histories.Change) (id : ℕ) (way : Way) → (IsLive id (live h) → ⊥) → reply_to_replace h (find (is_of id) (live h)) (Ok way) ≡ (ReplaceUnknown, h)
put_unknown h id way none = go (find (is_of id) (live h)) none
  where
    go : (named : Option Subscription) → (IsSome named → ⊥) → reply_to_replace h named (Ok way) ≡ (ReplaceUnknown, h)
    go None none = refl
    go (Some s) none = absurd (none refl)

-- the line for a replacement
pub put_replied : (text : List ℕ) (id : ℕ) (v w : PassView) (outcome : Result ℕ ReplaceFault) (line : OutLine) → IsLegal (history (seen_of v)) →
    calls.Replaced text id v w outcome → AllBy w.number (seen_of w) → IsLineOfReplacement id outcome line → AnsweredNamed (Some id) text (told v) (told w) line
put_replied text id v w (Ok version) line legal (filter, is_text, (c, is_live, fits, room)) own is =
    let way = whole.filter filter in
    let h = history (told v) in
    let made = Replace v.number id filter in
    let now = accepted_alone made version v w c own in
    let one = one_longer made version v w c own in
    let there = told_live id (seen_of v) (subst (λ (s : List Change). IsLive id (live_behind s)) now is_live) in
    let fits_now = subst (λ (s : List Change). size_beside id s + size way ≤ 500_000) now fits in (
      Ok way,
      is_text,
      replied h (history (told w)) (AsksReplace (Some id) (Ok way)) (Replaced id version) line (h ++ histories.Replaces 0 id way ∷ [])
          (put_comes h id (size_beside id (seen_of v)) way (others_are id (seen_of v) legal) version there fits_now (omega arith) (c.version_is ∙ one)) is (told_more made version v w c own),
    )
put_replied text id v w (Err (replace.Filter fault)) line legal (has, same) own is =
    (Err fault, has, replied (history (told v)) (history (told w)) (AsksReplace (Some id) (Err fault)) (NoFilter fault) line (history (told v)) refl is (ap (λ (p : PassView). history (told p)) same))
put_replied text id v w (Err replace.Unknown) line legal (filter, is_text, (caught, none)) own is =
    let way = whole.filter filter in
    let h = history (told v) in
    let same = caught_alone v w caught own in
    let gone = λ (there : IsLive id (live h)). none (subst (λ (s : List Change). IsLive id (live_behind s)) (sym same) (live_told id (seen_of v) there)) in
    (Ok way, is_text, replied h (history (told w)) (AsksReplace (Some id) (Ok way)) ReplaceUnknown line h (put_unknown h id way gone) is (same_told v w same))
put_replied text id v w (Err (replace.TooLarge n)) line legal (filter, is_text, (caught, is_live, n_is, big)) own is =
    let way = whole.filter filter in
    let h = history (told v) in
    let same = caught_alone v w caught own in
    let there = told_live id (seen_of v) (subst (λ (s : List Change). IsLive id (live_behind s)) same is_live) in
    let others = n_is ∙ ap (size_beside id) same in
    let are = subst (λ (m : ℕ). AreOthers id m (live h)) (sym others) (others_are id (seen_of v) legal) in
    (Ok way, is_text, replied h (history (told w)) (AsksReplace (Some id) (Ok way)) (ReplaceTooLarge n) line h (put_large h id n way are there big) is (same_told v w same))
put_replied text id v w (Err replace.NoVersions) line legal (filter, is_text, (caught, is_live, fits, long)) own is =
    let way = whole.filter filter in
    let h = history (told v) in
    let same = caught_alone v w caught own in
    let there = told_live id (seen_of v) (subst (λ (s : List Change). IsLive id (live_behind s)) same is_live) in
    let fits_now = subst (λ (s : List Change). size_beside id s + size way ≤ 500_000) same fits in (
      Ok way,
      is_text,
      replied h (history (told w)) (AsksReplace (Some id) (Ok way)) ReplaceNoVersions line h
          (put_full h id (size_beside id (seen_of v)) way (others_are id (seen_of v) legal) there fits_now (same_length (seen_of v) ∙ sym (ap length same) ∙ long)) is (same_told v w same),
    )
put_replied text id v w (Err replace.Memory) line legal s own is = absurd is

-- the number of the pass is kept
pub put_keeps : (text : List ℕ) (id : ℕ) (v w : PassView) (outcome : Result ℕ ReplaceFault) → calls.Replaced text id v w outcome → w.number ≡ v.number
put_keeps text id v w (Ok version) (filter, is_text, (c, is_live, fits, room)) = c.number
put_keeps text id v w (Err (replace.Filter fault)) (has, same) = ap (λ (p : PassView). p.number) same
put_keeps text id v w (Err replace.Unknown) (filter, is_text, (caught, none)) = caught.came.number
put_keeps text id v w (Err (replace.TooLarge n)) (filter, is_text, (caught, is_live, n_is, big)) = caught.came.number
put_keeps text id v w (Err replace.NoVersions) (filter, is_text, (caught, is_live, fits, long)) = caught.came.number
put_keeps text id v w (Err replace.Memory) same = ap (λ (p : PassView). p.number) same

-- a replacement that names no id
pub unknown_replied : {E : Type 0} (text : List ℕ) (way : Way) (changes : List Change) (result : Result OutLine E) → IsText text way → result ≡ Ok ReplaceUnknown →
    IfOk result (λ line. AnsweredNamed None text changes changes line)
unknown_replied {E = E} text way changes result is_text e =
    let P : Result OutLine E → Type 0 = λ r. IfOk r (λ line. AnsweredNamed None text changes changes line) in
    subst P (sym e) (Ok way, is_text, refl)

pub fault_replied : {E : Type 0} (text : List ℕ) (fault : ParseFault) (changes : List Change) (result : Result OutLine E) → IsRefused text fault →
    IfOk result (λ line. IsLineOfFault fault line) → IfOk result (λ line. AnsweredNamed None text changes changes line)
fault_replied text (parse.Filter fault) changes (Ok line) refused e = (Err fault, refused, ap (λ (l : OutLine). (l, history changes)) (sym e))
fault_replied text parse.Memory changes (Ok line) refused e = absurd e
fault_replied text fault changes (Err e) refused h = tt
