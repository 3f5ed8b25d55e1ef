-- Changes that were accepted, and what a filter's text has to do with them.
use Rattle.std.proofs.Common.{◌≡◌, ℕ, ◌+◌, ◌≤◌, ◌<◌, List, [], ◌∷◌, ◌++◌, length, refl, sym, ap, ◌∙◌, subst, arith, length-append}
use Rattle.std.specs.Prelude.{take, Result, Ok, Err}
use Rattle.px_xpath.specs.declared.filter.Filter.{Filter}
use Rattle.px_xpath.specs.Whole as whole
use Rattle.px_xpath.specs.Faults.{IsText}
use Rattle.px_xpath.specs.Histories.{size, IsLive}
use Rattle.px_workload.specs.declared.change.Change.{Change}
use Rattle.px_workload.specs.declared.change.Change.TheVariants.{Add, Drop, Replace}
use Rattle.px_hub.specs.declared.faults.SubscribeFault.{SubscribeFault}
use Rattle.px_hub.specs.declared.faults.SubscribeFault.TheVariants as add
use Rattle.px_hub.specs.declared.faults.ReplaceFault.{ReplaceFault}
use Rattle.px_hub.specs.declared.faults.ReplaceFault.TheVariants as put
use Rattle.px_hub.specs.Passes.{PassView}
use Rattle.px_hub.specs.Calls.{Accepted, AddsTo, PutsIn, Subscribed, Unsubscribed, Replaced, live_behind, size_behind, size_beside, seen_of}
use Rattle.px_hub.proofs.Keeping.{take_front}

pub take_whole : {A : Type 0} (xs : List A) → take (length xs) xs ≡ xs
take_whole [] = refl
take_whole (x ∷ xs) = ap (λ l. x ∷ l) (take_whole xs)

snoc_front : {A : Type 0} (xs : List A) (x : A) → take (length xs) (xs ++ x ∷ []) ≡ xs
snoc_front xs x = take_front (length xs) xs (x ∷ []) (omega arith) ∙ take_whole xs

-- lists with one element more at the end are equal only where the lists before it are
snoc_left : {A : Type 0} (xs ys : List A) (x y : A) → xs ++ x ∷ [] ≡ ys ++ y ∷ [] → xs ≡ ys
snoc_left xs ys x y e =
    let long : length xs ≡ length ys = omega (arith, length-append xs (x ∷ []), length-append ys (y ∷ []), ap length e) in
    sym (snoc_front xs x) ∙ ((λ i. take (long i) (e i)) ∙ snoc_front ys y)

-- a change was accepted behind the history that the desk had
module _ (version : ℕ) (v w : PassView) (seen : List Change) where
  -- what the pass had seen, with the changes of others, is that history
  others_are : (c : Change) (a : Accepted c version v w) → seen_of w ≡ seen ++ c ∷ [] → seen ≡ seen_of v ++ a.others
  others_are c a e = snoc_left seen (seen_of v ++ a.others) c c (sym e ∙ a.seen)

  within : (c : Change) → seen_of w ≡ seen ++ c ∷ [] → length seen < 1_048_575 → length (seen_of w) ≤ 1_048_575
  within c e room = omega (arith, length-append seen (c ∷ []), ap length e)

  pub added : (f : Filter) → Accepted (Add v.number f) version v w → seen_of w ≡ seen ++ Add v.number f ∷ [] → size_behind seen + size (whole.filter f) ≤ 500_000 → length seen < 1_048_575 → AddsTo f v w (Ok version)
  added f a e fits room = (a, subst (λ l. size_behind l + size (whole.filter f) ≤ 500_000) (others_are (Add v.number f) a e) fits, within (Add v.number f) e room)

  pub dropped : (id : ℕ) → Accepted (Drop v.number id) version v w → seen_of w ≡ seen ++ Drop v.number id ∷ [] → IsLive id (live_behind seen) → length seen < 1_048_575 → Unsubscribed id v w (Ok version)
  dropped id a e is_live room = (a, subst (λ l. IsLive id (live_behind l)) (others_are (Drop v.number id) a e) is_live, within (Drop v.number id) e room)

  pub put_in : (id : ℕ) (f : Filter) → Accepted (Replace v.number id f) version v w → seen_of w ≡ seen ++ Replace v.number id f ∷ [] → IsLive id (live_behind seen)
      → size_beside id seen + size (whole.filter f) ≤ 500_000 → length seen < 1_048_575 → PutsIn id f v w (Ok version)
  put_in id f a e is_live fits room =
      let same = others_are (Replace v.number id f) a e in (
        a,
        subst (λ l. IsLive id (live_behind l)) same is_live,
        subst (λ l. size_beside id l + size (whole.filter f) ≤ 500_000) same fits,
        within (Replace v.number id f) e room,
      )

-- what was done with the filter of a text
pub subscribed : (text : List ℕ) (f : Filter) (v w : PassView) (answer : Result ℕ SubscribeFault) → IsText text (whole.filter f) → AddsTo f v w answer → Subscribed text v w answer
subscribed text f v w (Ok id) t a = (f, t, a)
subscribed text f v w (Err (add.Filter fault)) t a = absurd a
subscribed text f v w (Err (add.TooLarge n)) t a = (f, t, a)
subscribed text f v w (Err add.NoVersions) t a = (f, t, a)
subscribed text f v w (Err add.Memory) t a = a

pub replaced : (text : List ℕ) (id : ℕ) (f : Filter) (v w : PassView) (answer : Result ℕ ReplaceFault) → IsText text (whole.filter f) → PutsIn id f v w answer → Replaced text id v w answer
replaced text id f v w (Ok version) t a = (f, t, a)
replaced text id f v w (Err (put.Filter fault)) t a = absurd a
replaced text id f v w (Err put.Unknown) t a = (f, t, a)
replaced text id f v w (Err (put.TooLarge n)) t a = (f, t, a)
replaced text id f v w (Err put.NoVersions) t a = (f, t, a)
replaced text id f v w (Err put.Memory) t a = a
