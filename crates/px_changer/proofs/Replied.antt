-- What a hub answers to a change is what a feed is answered, where one pass makes all changes.
use Rattle.std.proofs.Common.{◌≡◌, ℕ, ◌+◌, ◌≤◌, ◌<◌, Bool, true, false, List, [], ◌∷◌, ◌++◌, length, length-append, find, Option, Some, None, Ok, Err, Result, eqb, refl, ap, sym, ◌∙◌, subst, arith}
use Rattle.std.specs.Prelude.{nat_lt, nat_le, IsSome, IfOk}
use Rattle.std.proofs.lemmas.Bool.{eqb-true, le-ltb, lt-leb, le-leb}
use Rattle.px_feed.specs.declared.line.OutLine.{OutLine}
use Rattle.px_feed.specs.declared.line.OutLine.TheVariants.{Added, AddTooLarge, AddNoVersions, Dropped, DropUnknown, DropNoVersions, NoFilter}
use Rattle.px_feed.specs.Items.{Adding}
use Rattle.px_feed.specs.Outputs.{Ask, AsksAdd, AsksDrop, reply, reply_to_add, reply_to_drop, is_full, is_too_large}
use Rattle.px_workload.specs.declared.change.Change.{Change}
use Rattle.px_workload.specs.declared.change.Change.TheVariants.{Add, Drop}
use Rattle.px_workload.specs.Changes.{change, history}
use Rattle.px_xpath.specs.Filters.{Way}
use Rattle.px_xpath.specs.Whole as whole
use Rattle.px_xpath.specs.Histories as histories
use Rattle.px_xpath.specs.Histories.{Subscription, live, live_size, size, is_of, IsLive}
use Rattle.px_lines.specs.Replying.{Answered, Replies}
use Rattle.px_hub.specs.declared.faults.SubscribeFault.{SubscribeFault}
use Rattle.px_hub.specs.declared.faults.SubscribeFault.TheVariants as add
use Rattle.px_hub.specs.declared.faults.UnsubscribeFault.{UnsubscribeFault}
use Rattle.px_hub.specs.declared.faults.UnsubscribeFault.TheVariants as drop
use Rattle.px_hub.specs.Passes.{PassView}
use Rattle.px_hub.specs.Calls.{Subscribed, Unsubscribed, Accepted, seen_of, size_behind, live_behind}
use Rattle.px_changer.specs.Alone.{AllBy, HoldEvery, IsAlone}
use Rattle.px_changer.specs.Telling.{anonymous, all_anonymous, told}
use Rattle.px_changer.specs.Lines.{IsLineOfAdd, IsLineOfDrop}
use Rattle.px_changer.proofs.Owning.{caught_alone, accepted_alone}
use Rattle.px_changer.proofs.Anonymous.{same_live, same_length, told_last}

-- the tests of a reply, over any bound
pub small : (n x : ℕ) → x ≤ n → nat_lt n x ≡ false
small n x le = le-ltb n x le

pub large : (n x : ℕ) → n < x → nat_lt n x ≡ true
large n x lt = grind arith

pub roomy : (n x : ℕ) → x + 1 ≤ n → nat_le n x ≡ false
roomy n x le = lt-leb n x (omega arith)

pub full : (n x : ℕ) → x ≡ n → nat_le n x ≡ true
full n x e = le-leb n x (omega arith)

-- an add
add_comes : (h : List histories.Change) (way : Way) (id : ℕ) → live_size (live h) + size way ≤ 500_000 → length h + 1 ≤ 1_048_575 → id ≡ length h + 1 →
    reply_to_add h (Ok way) ≡ (Added id, h ++ histories.Adds 0 way ∷ [])
add_comes h way id fits room e =
    let s : is_too_large (live_size (live h) + size way) ≡ false = small 500_000 (live_size (live h) + size way) fits in
    let r : is_full h ≡ false = roomy 1_048_575 (length h) room in
    rw (s, r, e) refl

add_large : (h : List histories.Change) (way : Way) (n : ℕ) → n ≡ live_size (live h) → 500_000 < n + size way → reply_to_add h (Ok way) ≡ (AddTooLarge n, h)
add_large h way n e big =
    let s : is_too_large (live_size (live h) + size way) ≡ true = large 500_000 (live_size (live h) + size way) (omega arith) in
    rw (s, e) refl

add_full : (h : List histories.Change) (way : Way) → live_size (live h) + size way ≤ 500_000 → length h ≡ 1_048_575 → reply_to_add h (Ok way) ≡ (AddNoVersions, h)
add_full h way fits e =
    let s : is_too_large (live_size (live h) + size way) ≡ false = small 500_000 (live_size (live h) + size way) fits in
    let r : is_full h ≡ true = full 1_048_575 (length h) e in
    rw (s, r) refl

-- what is found under an id has it
pub has_id : (id : ℕ) (filters : List Subscription) (s : Subscription) → find (is_of id) filters ≡ Some s → s.id ≡ id
has_id id [] s e = absurd (cc)
has_id id (x ∷ filters) s e = on (has_id id filters s) (eqb x.id id) refl
  where
    on : (find (is_of id) filters ≡ Some s → s.id ≡ id) → (b : Bool) → eqb x.id id ≡ b → s.id ≡ id
    on here true same = let f : Some x ≡ Some s = rw same at e in let g : x ≡ s = cc in ap (λ t. t.id) (sym g) ∙ eqb-true x.id id same
    on here false other = let f : find (is_of id) filters ≡ Some s = rw other at e in here f

-- a drop
module _ (h : List histories.Change) (id : ℕ) where
  drop_comes : (version : ℕ) → IsLive id (live h) → length h + 1 ≤ 1_048_575 → version ≡ length h + 1 →
      reply_to_drop h (find (is_of id) (live h)) ≡ (Dropped id version, h ++ histories.Drops 0 id ∷ [])
  drop_comes version is_live room e = go (find (is_of id) (live h)) is_live (has_id id (live h))
    where
      go : (named : Option Subscription) → IsSome named → ((s : Subscription) → named ≡ Some s → s.id ≡ id) →
          reply_to_drop h named ≡ (Dropped id version, h ++ histories.Drops 0 id ∷ [])
      go None there has = absurd (cc)
      go (Some s) there has =
          let r : is_full h ≡ false = roomy 1_048_575 (length h) room in
          subst (λ (n : ℕ). reply_to_drop h (Some s) ≡ (Dropped n version, h ++ histories.Drops 0 n ∷ [])) (has s refl) (rw (r, e) refl)

  drop_unknown : (IsLive id (live h) → ⊥) → reply_to_drop h (find (is_of id) (live h)) ≡ (DropUnknown, h)
  drop_unknown none = go (find (is_of id) (live h)) none
    where
      go : (named : Option Subscription) → (IsSome named → ⊥) → reply_to_drop h named ≡ (DropUnknown, h)
      go None none = refl
      go (Some s) none = absurd (none (refl))

  drop_full : IsLive id (live h) → length h ≡ 1_048_575 → reply_to_drop h (find (is_of id) (live h)) ≡ (DropNoVersions, h)
  drop_full is_live e = go (find (is_of id) (live h)) is_live
    where
      go : (named : Option Subscription) → IsSome named → reply_to_drop h named ≡ (DropNoVersions, h)
      go None there = absurd (cc)
      go (Some s) there = let r : is_full h ≡ true = full 1_048_575 (length h) e in rw r refl

-- a reply with its line and what is behind it
pub replied : (h after : List histories.Change) (ask : Ask) (one line : OutLine) (behind : List histories.Change) → reply h ask ≡ (one, behind) → line ≡ one → after ≡ behind →
    reply h ask ≡ (line, after)
replied h after ask one line behind e line_is after_is = e ∙ ap (λ (l : OutLine). (l, behind)) (sym line_is) ∙ ap (λ (k : List histories.Change). (line, k)) (sym after_is)

-- what is known of the told history, of the history that was seen
told_size : (seen : List Change) → live_size (live (history (all_anonymous seen))) ≡ size_behind seen
told_size seen = ap live_size (same_live seen)

pub same_told : (v w : PassView) → seen_of w ≡ seen_of v → history (told w) ≡ history (told v)
same_told v w e = ap (λ (s : List Change). history (all_anonymous s)) e

pub told_more : (change' : Change) (version : ℕ) (v w : PassView) → (c : Accepted change' version v w) → AllBy w.number (seen_of w) →
    history (told w) ≡ history (told v) ++ change (anonymous change') ∷ []
told_more change' version v w c own =
    ap (λ (s : List Change). history (all_anonymous s)) (c.seen ∙ ap (λ (s : List Change). s ++ change' ∷ []) (accepted_alone change' version v w c own))
    ∙ told_last (seen_of v) change'

pub one_longer : (change' : Change) (version : ℕ) (v w : PassView) → (c : Accepted change' version v w) → AllBy w.number (seen_of w) →
    length (seen_of w) ≡ length (history (told v)) + 1
one_longer change' version v w c own =
    let seen = ap length (c.seen ∙ ap (λ (s : List Change). s ++ change' ∷ []) (accepted_alone change' version v w c own)) in
    let more = length-append (seen_of v) (change' ∷ []) in
    let long = same_length (seen_of v) in omega arith

-- the line for an add
pub add_replied : (text : List ℕ) (v w : PassView) (outcome : Result ℕ SubscribeFault) (line : OutLine) → Subscribed text v w outcome → AllBy w.number (seen_of w) →
    IsLineOfAdd outcome line → Answered (Adding text) (told v) (told w) line
add_replied text v w (Ok id) line (filter, is_text, (c, fits, room)) own is =
    let way = whole.filter filter in
    let h = history (told v) in
    let now = accepted_alone (Add v.number filter) id v w c own in
    let one = one_longer (Add v.number filter) id v w c own in
    let fits_told : live_size (live h) + size way ≤ 500_000 = (let told_is = told_size (seen_of v) in let all = ap size_behind now in omega arith) in (
      AsksAdd (Ok way),
      is_text,
      replied h (history (told w)) (AsksAdd (Ok way)) (Added id) line (h ++ histories.Adds 0 way ∷ [])
          (add_comes h way id fits_told (omega arith) (c.version_is ∙ one)) is (told_more (Add v.number filter) id v w c own),
    )
add_replied text v w (Err (add.Filter fault)) line (has, same) own is =
    (AsksAdd (Err fault), has, replied (history (told v)) (history (told w)) (AsksAdd (Err fault)) (NoFilter fault) line (history (told v)) refl is (ap (λ (p : PassView). history (told p)) same))
add_replied text v w (Err (add.TooLarge n)) line (filter, is_text, (caught, n_is, big)) own is =
    let way = whole.filter filter in
    let h = history (told v) in
    let same = caught_alone v w caught own in (
      AsksAdd (Ok way),
      is_text,
      replied h (history (told w)) (AsksAdd (Ok way)) (AddTooLarge n) line h
          (add_large h way n (n_is ∙ ap size_behind same ∙ sym (told_size (seen_of v))) big) is (same_told v w same),
    )
add_replied text v w (Err add.NoVersions) line (filter, is_text, (caught, fits, long)) own is =
    let way = whole.filter filter in
    let h = history (told v) in
    let same = caught_alone v w caught own in
    let fits_told : live_size (live h) + size way ≤ 500_000 = (let told_is = told_size (seen_of v) in let all = ap size_behind same in omega arith) in (
      AsksAdd (Ok way),
      is_text,
      replied h (history (told w)) (AsksAdd (Ok way)) AddNoVersions line h
          (add_full h way fits_told (same_length (seen_of v) ∙ sym (ap length same) ∙ long)) is (same_told v w same),
    )
add_replied text v w (Err add.Memory) line s own is = absurd is

-- the line for a drop
pub told_live : (id : ℕ) (seen : List Change) → IsLive id (live_behind seen) → IsLive id (live (history (all_anonymous seen)))
told_live id seen is_live = subst (λ (l : List Subscription). IsLive id l) (sym (same_live seen)) is_live

pub live_told : (id : ℕ) (seen : List Change) → IsLive id (live (history (all_anonymous seen))) → IsLive id (live_behind seen)
live_told id seen is_live = subst (λ (l : List Subscription). IsLive id l) (same_live seen) is_live

pub drop_replied : (id : ℕ) (v w : PassView) (outcome : Result ℕ UnsubscribeFault) (line : OutLine) → Unsubscribed id v w outcome → AllBy w.number (seen_of w) →
    IsLineOfDrop id outcome line → Replies (AsksDrop (Some id)) (told v) (told w) line
drop_replied id v w (Ok version) line (c, is_live, room) own is =
    let h = history (told v) in
    let now = accepted_alone (Drop v.number id) version v w c own in
    let one = one_longer (Drop v.number id) version v w c own in
    let there = told_live id (seen_of v) (subst (λ (s : List Change). IsLive id (live_behind s)) now is_live) in
    replied h (history (told w)) (AsksDrop (Some id)) (Dropped id version) line (h ++ histories.Drops 0 id ∷ [])
    (drop_comes h id version there (omega arith) (c.version_is ∙ one)) is (told_more (Drop v.number id) version v w c own)
drop_replied id v w (Err drop.Unknown) line (caught, none) own is =
    let same = caught_alone v w caught own in
    let gone = λ (there : IsLive id (live (history (told v)))). none (subst (λ (s : List Change). IsLive id (live_behind s)) (sym same) (live_told id (seen_of v) there)) in
    replied (history (told v)) (history (told w)) (AsksDrop (Some id)) DropUnknown line (history (told v)) (drop_unknown (history (told v)) id gone) is (same_told v w same)
drop_replied id v w (Err drop.NoVersions) line (caught, is_live, long) own is =
    let same = caught_alone v w caught own in
    let there = told_live id (seen_of v) (subst (λ (s : List Change). IsLive id (live_behind s)) same is_live) in
    replied (history (told v)) (history (told w)) (AsksDrop (Some id)) DropNoVersions line (history (told v))
    (drop_full (history (told v)) id there (same_length (seen_of v) ∙ sym (ap length same) ∙ long)) is (same_told v w same)
drop_replied id v w (Err drop.Memory) line s own is = absurd is

-- the number of the pass is kept
pub add_keeps : (text : List ℕ) (v w : PassView) (outcome : Result ℕ SubscribeFault) → Subscribed text v w outcome → w.number ≡ v.number
add_keeps text v w (Ok id) (filter, is_text, (c, fits, room)) = c.number
add_keeps text v w (Err (add.Filter fault)) (has, same) = ap (λ (p : PassView). p.number) same
add_keeps text v w (Err (add.TooLarge n)) (filter, is_text, (caught, n_is, big)) = caught.came.number
add_keeps text v w (Err add.NoVersions) (filter, is_text, (caught, fits, long)) = caught.came.number
add_keeps text v w (Err add.Memory) same = ap (λ (p : PassView). p.number) same

pub drop_keeps : (id : ℕ) (v w : PassView) (outcome : Result ℕ UnsubscribeFault) → Unsubscribed id v w outcome → w.number ≡ v.number
drop_keeps id v w (Ok version) (c, is_live, room) = c.number
drop_keeps id v w (Err drop.Unknown) (caught, none) = caught.came.number
drop_keeps id v w (Err drop.NoVersions) (caught, is_live, long) = caught.came.number
drop_keeps id v w (Err drop.Memory) same = ap (λ (p : PassView). p.number) same

-- the first and the others are all passes of the hub
pub every_kept : (passes : ℕ) (v w : PassView) (others : List PassView) → w.number ≡ v.number → HoldEvery passes v.number others → HoldEvery passes w.number others
every_kept passes v w others same every = subst (λ (n : ℕ). HoldEvery passes n others) (sym same) every

-- what holds of any line that may be answered
pub ok_then : {A E : Type 0} {P Q : A → Type 0} (r : Result A E) → IfOk r P → ((x : A) → P x → Q x) → IfOk r Q
ok_then (Ok a) p f = f a p
ok_then (Err e) p f = tt

-- the first has made all, where it is what it was before the others were told
pub own_then : (passes : ℕ) (w now : PassView) (others : List PassView) → now ≡ w → IsAlone passes now others → AllBy w.number (seen_of w)
own_then passes w now others same alone = subst (λ (p : PassView). AllBy p.number (seen_of p)) same alone.all_own
