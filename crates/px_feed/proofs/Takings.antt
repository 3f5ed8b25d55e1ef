-- Pieces are read and taken.
use Rattle.std.proofs.Common.{◌≡◌, ℕ, ◌+◌, ◌-◌, ◌≤◌, List, [], ◌++◌, length, take, drop, refl, ap, sym, ◌∙◌, subst, append_assoc, append-nil, inl, inr, Err, Option, Some, None, arith}
use Rattle.std.proofs.lemmas.List.{take-append-drop, length-take, length-drop, drop-take, drop-drop}
use Rattle.std.specs.Prelude.{option_map}
use Rattle.std.proofs.lemmas.Option.{same_Some}
use Rattle.px_reader.specs.Lines.{lines_of}
use Rattle.px_io.specs.Flows.{TakesFrom, IsSpent}
use Rattle.px_feed.specs.declared.fault.Failure.{Failure}
use Rattle.px_feed.specs.declared.fault.Failure.TheVariants.{Fault, Memory}
use Rattle.px_feed.specs.declared.ending.Ending.{Ending}
use Rattle.px_feed.specs.declared.ending.Ending.TheVariants as ending
use Rattle.px_feed.specs.declared.ending.Taken.{Taken}
use Rattle.px_feed.specs.Cutting.{EndsBy}
use Rattle.px_feed.specs.Endings.{ending_of, taken_of}
use Rattle.px_feed.specs.Items.{Item, AreWhole, most_bytes}
use Rattle.px_feed.specs.Joining.{Joined, FailsOn}
use Rattle.px_feed.specs.Progress.{Progress}
use Rattle.px_feed.specs.Taking.{GoesFurther, HasTakenIn, HasTaken, Ends, Answers, AnswersSoFar, held}
use Rattle.px_feed.proofs.Cuttings.{whole_lines}

pub nothing_taken : (left : Option (List ℕ)) → TakesFrom left [] left
nothing_taken None = refl
nothing_taken (Some rest) = refl

pub nothing_left : (left after : Option (List ℕ)) → after ≡ left → TakesFrom left [] after
nothing_left left after e = subst (λ o. TakesFrom left [] o) (sym e) (nothing_taken left)

-- two parts taken one after the other
pub taken_on : (left middle after : Option (List ℕ)) (a b : List ℕ) → TakesFrom left a middle → TakesFrom middle b after → TakesFrom left (a ++ b) after
taken_on left middle None a b p q = p ∙ ap (λ o. option_map (λ rest. a ++ rest) o) q
taken_on left middle (Some rest) a b p q = p ∙ ap (λ o. option_map (λ rest. a ++ rest) o) q ∙ ap (λ (bs : List ℕ). Some bs) (sym (append_assoc a b rest))

-- the items given are those whole in the bytes
pub whole_items : (document : List ℕ) (number size : ℕ) (kept : List ℕ) (count : ℕ) (bytes : List ℕ) (given : List Item) → Joined document number size kept count bytes given → size ≤ most_bytes →
    AreWhole bytes given
whole_items document number size kept count bytes given j fits =
    let (stop, gives, is) = whole_lines document (lines_of j.ended) given j.cut.standing (subst (λ n. n ≤ most_bytes) j.cut.sizes fits) in
    record { ended = j.ended; begun = j.begun; bytes_are = j.bytes_are; whole = j.whole; no_feed = j.no_feed; stop = stop; has_items = gives; open_end = is }

pub unread_all : (n : ℕ) (xs : List ℕ) → take n xs ≡ take (n - 0) (drop 0 xs)
unread_all n xs = ap (λ k. take k xs) (less n)
  where
    less : (n : ℕ) → n ≡ n - 0
    less n = omega arith

pub nothing_unread : (n : ℕ) (xs : List ℕ) → take (n - n) (drop n xs) ≡ []
nothing_unread n xs = ap (λ k. take k (drop n xs)) (none n)
  where
    none : (n : ℕ) → n - n ≡ 0
    none n = omega arith

-- an answer that read nothing
pub read_nothing : (result : Option Taken) (new : Progress) (left after : Option (List ℕ)) (bytes : List ℕ) (given : List Item) → after ≡ left → AnswersSoFar result new after bytes given →
    (more : List ℕ) × TakesFrom left more after × AnswersSoFar result new after (bytes ++ more) given
read_nothing result new left after bytes given e answer =
    ([], nothing_left left after e, subst (λ bs. AnswersSoFar result new after bs given) (sym (append-nil bytes)) answer)

pub ends_failure : (failure : Failure) (left : Option (List ℕ)) (bytes : List ℕ) (given : List Item) → IsSpent left → EndsBy (Err failure) (lines_of bytes) given → Ends (ending_of failure) left bytes given
ends_failure Memory left bytes given spent e = tt
ends_failure (Fault fault) left bytes given spent e = inr (spent, e)

pub fails_failure : (failure : Failure) (left : Option (List ℕ)) (bytes : List ℕ) (given : List Item) → FailsOn bytes given failure → Ends (ending_of failure) left bytes given
fails_failure Memory left bytes given f = tt
fails_failure (Fault fault) left bytes given f = inl f

-- what is left of a part behind its first bytes
pub rest_of : (at end used : ℕ) (xs : List ℕ) → at ≤ end → end ≤ length xs → used ≤ length (take (end - at) (drop at xs)) →
    take (end - at) (drop at xs) ≡ take used (take (end - at) (drop at xs)) ++ take (end - (at + used)) (drop (at + used) xs)
rest_of at end used xs l m n =
    sym (take-append-drop used (take (end - at) (drop at xs))) ∙ ap (λ bs. take used (take (end - at) (drop at xs)) ++ bs) behind
  where
    parts : used + (end - (at + used)) ≡ end - at
    parts = let t = length-take (end - at) (drop at xs) in grind arith

    behind : drop used (take (end - at) (drop at xs)) ≡ take (end - (at + used)) (drop (at + used) xs)
    behind =
        ap (λ k. drop used (take k (drop at xs))) (sym parts) ∙ drop-take used (end - (at + used)) (drop at xs)
        ∙ ap (take (end - (at + used))) (drop-drop used at xs)

pub unread_length : (at end : ℕ) (xs : List ℕ) → at ≤ end → end ≤ length xs → length (take (end - at) (drop at xs)) ≡ end - at
unread_length at end xs l m =
    let t = length-take (end - at) (drop at xs) in
    let d = length-drop at xs in
    grind arith

-- the answer that ends a feed
answers_ending : (ending : Ending) (items : Progress) (left : Option (List ℕ)) (bytes : List ℕ) (given : List Item) → Ends ending left bytes given →
    Answers (taken_of ending) items left bytes given
answers_ending ending.End items left bytes given e = e
answers_ending (ending.Fault fault) items left bytes given e = e
answers_ending ending.ReadFault items left bytes given e = e
answers_ending ending.Memory items left bytes given e = e

-- no answer has ended the feed
pub not_ended : (items : Progress) (left : Option (List ℕ)) (bytes : List ℕ) (given : List Item) → items.ending ≡ None → HasTaken items left bytes given → GoesFurther items bytes given
not_ended items left bytes given none (inl b) = b
not_ended items left bytes given none (inr (ended, spent, has)) = let e : Some ending.End ≡ None = sym ended ∙ none in absurd (cc)

-- an answer has ended the feed: that nothing is left
pub ended_already : (items : Progress) (last : Ending) (result : Taken) (left : Option (List ℕ)) (bytes : List ℕ) (given : List Item) → items.ending ≡ Some last → result ≡ taken_of last →
    HasTaken items left bytes given → Answers result items left bytes given
ended_already items last result left bytes given some e (inl b) = let f : Some last ≡ None = sym some ∙ b.going in absurd (cc)
ended_already items last result left bytes given some e (inr (ended, spent, has)) =
    let same : last ≡ ending.End = same_Some last ending.End (sym some ∙ ended) in
    subst (λ taken. Answers taken items left bytes given) (sym (e ∙ ap taken_of same)) (spent, has)

pub answers_stop : (ending : Ending) (result : Taken) (items : Progress) (left : Option (List ℕ)) (bytes : List ℕ) (given : List Item) → result ≡ taken_of ending →
    Ends ending left bytes given → Answers result items left bytes given
answers_stop ending result items left bytes given e ends = subst (λ taken. Answers taken items left bytes given) (sym e) (answers_ending ending items left bytes given ends)

-- Where all that was read is taken, the bytes are joined.
pub joined_all : (items : Progress) (bytes : List ℕ) (given : List Item) → items.unread ≡ [] → GoesFurther items bytes given → HasTakenIn items bytes given
joined_all items bytes given none b =
    subst (λ bs. HasTakenIn items bs given) (sym (b.bytes_are ∙ ap (λ bs. b.done ++ bs) none ∙ append-nil b.done)) b.joined

-- and no more are held
pub held_all : (items : Progress) → items.unread ≡ [] → held items ≡ items.size + items.begun
held_all items none = let n : length items.unread ≡ 0 = ap length none in omega arith

-- Where no ending is kept, there is none.
pub not_stopped : (o : Option Ending) → ((last : Ending) → o ≡ Some last → ⊥) → o ≡ None
not_stopped None n = refl
not_stopped (Some last) n = absurd (n last refl)
