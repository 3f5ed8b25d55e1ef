-- What a mailbox knows of its letters.
use Rattle.std.proofs.Common.{◌≡◌, ◌≢◌, ℕ, ◌+◌, ◌<◌, ◌⊎◌, Bool, true, false, cond, nat_eq, List, [], ◌∷◌, ◌++◌, length, append_assoc, append-nil, length-append, refl, sym, ap, ◌∙◌, subst, arith, inl, inr}
use Rattle.std.proofs.lemmas.Bool.Decides.{eqb_tells}
use Rattle.std.specs.Prelude.{Option, Some, None, Result, Ok, Err, MatchResult, MatchOption}
use Rattle.px_line.specs.declared.rule.Known.{Known}
use Rattle.px_line.specs.Lines.{LineName, Seated, HasNumber, Follow, Held, Waits, Learns, HasLearnt, Takes, with_given}
use Rattle.px_line.proofs.Lists.{of_append, of_more, of_other}
use Rattle.px_post.specs.declared.letter.Letter.{Letter}
use Rattle.px_post.specs.Mail.{feeder_of, IsNext, of_feeder, AreNumbered, InOrder, IsMailbox, AreAll, WasFull}

-- of a list in which each letter is the next of its feeder, the letters of one feeder are numbered
numbered_behind : (f : ℕ) (done rest : List Letter) → Follow feeder_of IsNext (done ++ rest) → AreNumbered (length (of_feeder f done)) (of_feeder f rest)
numbered_behind f done [] follow = tt
numbered_behind f done (x ∷ xs) follow =
    by_test (eqb_tells x.feeder f) (numbered_behind f (done ++ x ∷ []) xs (subst (Follow feeder_of IsNext) (sym (append_assoc done (x ∷ []) xs)) follow))
  where
    by_test : ((nat_eq x.feeder f ≡ true) × (x.feeder ≡ f)) ⊎ ((nat_eq x.feeder f ≡ false) × (x.feeder ≢ f)) → AreNumbered (length (of_feeder f (done ++ x ∷ []))) (of_feeder f xs) → AreNumbered (length (of_feeder f done)) (cond (nat_eq x.feeder f) (x ∷ of_feeder f xs) (of_feeder f xs))
    by_test (inl t) further =
        let seq : x.seq ≡ length (of_feeder f done) + 1 = subst (λ (g : ℕ). x.seq ≡ length (of_feeder g done) + 1) t.1 (follow done x xs refl) in
        let more : length (of_feeder f (done ++ x ∷ [])) ≡ length (of_feeder f done) + 1 = ap length (of_more feeder_of f done x t.1) ∙ length-append (of_feeder f done) (x ∷ []) in
        subst (λ (b : Bool). AreNumbered (length (of_feeder f done)) (cond b (x ∷ of_feeder f xs) (of_feeder f xs))) (sym t.0) (seq, subst (λ (n : ℕ). AreNumbered n (of_feeder f xs)) more further)
    by_test (inr t) further =
        let same : length (of_feeder f (done ++ x ∷ [])) ≡ length (of_feeder f done) = ap length (of_other feeder_of f done x t.1) in
        subst (λ (b : Bool). AreNumbered (length (of_feeder f done)) (cond b (x ∷ of_feeder f xs) (of_feeder f xs))) (sym t.0) (subst (λ (n : ℕ). AreNumbered n (of_feeder f xs)) same further)

follow_front : (xs ys : List Letter) → Follow feeder_of IsNext (xs ++ ys) → Follow feeder_of IsNext xs
follow_front xs ys follow front x back e = follow front x (back ++ ys) (ap (λ (l : List Letter). l ++ ys) e ∙ append_assoc front (x ∷ back) ys)

-- what a mailbox has learnt, which takes alone
pub in_order : (v : Known Letter) → v.alone ≡ true → HasLearnt feeder_of IsNext v → InOrder v.taken v.ended
in_order v alone (items, l) =
    let same = l.alone alone in record {
      numbered = λ f. numbered_behind f [] v.taken (subst (Follow feeder_of IsNext) (sym same) (follow_front l.taken items l.follow));
      front = λ f all e. (of_feeder f items, l.ended f all e ∙ of_append feeder_of f l.taken items ∙ ap (λ (l : List Letter). of_feeder f l ++ of_feeder f items) (sym same));
    }

are_all : (v : Known Letter) → v.alone ≡ true → Held 0 (Learns feeder_of IsNext v) → AreAll v.taken v.ended
are_all v alone ((x ∷ items), long, l) = absurd (omega arith)
are_all v alone ([], long, l) = λ f all e. sym (l.ended f all e ∙ ap (of_feeder f) (append-nil l.taken ∙ sym (l.alone alone)))

-- what a mailbox has taken, or has learnt where nothing waited
pub took : (r : Option Letter) (v w : Known Letter) (got : List Letter) (ended : List (ℕ × List Letter)) → got ≡ v.taken → ended ≡ v.ended → v.alone ≡ true
    → MatchOption r ((w ≡ v) × Held 0 (Learns feeder_of IsNext v)) (λ x. Takes feeder_of IsNext v x w)
    → MatchOption r ((w.taken ≡ got) × AreAll got ended) (λ x. (w.taken ≡ got ++ x ∷ []) × (x.seq ≡ length (of_feeder x.feeder got) + 1))
took None v w got ended same like alone h =
    (ap (λ (k : Known Letter). k.taken) h.0 ∙ sym same, subst (λ (p : List Letter × List (ℕ × List Letter)). AreAll p.0 p.1) (λ i. (sym same i, sym like i)) (are_all v alone h.1))
took (Some x) v w got ended same like alone h =
    (ap (λ (k : Known Letter). k.taken) h.0 ∙ ap (λ (l : List Letter). l ++ x ∷ []) (sym same), subst (λ (l : List Letter). x.seq ≡ length (of_feeder x.feeder l) + 1) (sym same) (h.1 alone))

was_full : (n f : ℕ) (v : Known Letter) → v.gives ≡ Some f → Held n (Waits feeder_of v) → WasFull n f v.given
was_full n f v mine h = let w = h.2 f mine in (w.0, h.0, h.1, w.1 ∙ of_append feeder_of f w.0 h.0)

-- what a feeder has put, or that there was no room
pub put_or_full : (m n f : ℕ) (r : Result (Unit {0}) Letter) (v w : Known Letter) (x : Letter) (put : List Letter) → m ≡ n → put ≡ v.given → v.gives ≡ Some f
    → MatchResult r (λ _. w ≡ with_given v x) (λ back. (back ≡ x) × (w ≡ v) × Held m (Waits feeder_of v))
    → MatchResult r (λ _. w.given ≡ put ++ x ∷ []) (λ back. (back ≡ x) × (w.given ≡ put) × WasFull n f put)
put_or_full m n f (Ok _) v w x put long same mine h = ap (λ (k : Known Letter). k.given) h ∙ ap (λ (l : List Letter). l ++ x ∷ []) (sym same)
put_or_full m n f (Err back) v w x put long same mine h =
    (h.0, ap (λ (k : Known Letter). k.given) h.1 ∙ sym same, subst (λ (n : ℕ). WasFull n f put) long (subst (WasFull m f) (sym same) (was_full m f v mine h.2)))

-- a mailbox that has learnt
pub mail_after : (line : LineName) (s w : Seated Letter) → w ≡ s → line.table ≡ s.table → 0 < s.knows.parts → s.knows.alone ≡ true → HasNumber s.knows.makes → s.knows.gives ≡ None → HasLearnt feeder_of IsNext s.knows → IsMailbox line w
mail_after line s w same table parts alone makes gives learnt =
    subst (IsMailbox line) (sym same) (record { table = table; parts = parts; alone = alone; makes = makes; gives = gives; in_order = in_order s.knows alone learnt })
