-- The counts between two views inside a bank are those between views outside that know the same.
use Rattle.std.proofs.Common.{ℕ, ◌+◌, ◌<◌, ◌≤◌, List, [], ◌∷◌, ◌++◌, map, take, sym, ap, ◌∙◌, subst, ⊎_elim, inl, inr}
use Rattle.std.proofs.lemmas.List.Elements.{All-weaker}
use Rattle.px_text.specs.declared.op.Op.{Op}
use Rattle.px_text.specs.Operands.{Operand}
use Rattle.px_afa.specs.Steps.{Step}
use Rattle.px_rule.specs.declared.shape.Shape.{Shape}
use Rattle.px_rule.specs.declared.view.View.{View}
use Rattle.px_rule.specs.declared.view.Found.{Found}
use Rattle.px_rule.specs.Words.{nodes_of, steps_of, path_of, long_of}
use Rattle.px_rule.specs.Known.{Agrees}
use Rattle.px_rule.specs.RightBanks.{RightBank}
use Rattle.px_rule.specs.Kept.{IsAt, Since, Sound, SetBlocked}
use Rattle.px_rule.proofs.Since.{since_idle, since_trans, key_since, blocked_since}
use Rattle.px_rule.proofs.Sounds.{wrote_none, wrote_on}
use Rattle.px_call.specs.declared.tally.Tally.{Tally}
use Rattle.px_call.specs.Counted.{Fate, found, computed, own, Mark, step_of, Among, Shows, IsNew, EachNew, WordOf, Counted, Counts}
use Rattle.px_call.specs.Laws.{KnowTheSame}
use Rattle.px_call.proofs.Lasting.{kept_since, all_show_since, word_since, among_same}

module _ {E : Type 0} (right : List E → Op → Operand → Operand → List ℕ → Type 0) (z : Shape) (k n : ℕ) where
  since_same : (v w : View E) → KnowTheSame v w → Since n v w
  since_same v w e = since_idle n v w (ap (λ p. take n p.seen) e.0) e.1

  sound_same : (v w : View E) → KnowTheSame v w → Sound right z k n v → Sound right z k n w
  sound_same v w e s = record {
    mem = s.mem;
    bank = subst (λ (l : List E). RightBank (nodes_of z) (steps_of z) (path_of z) (long_of z) (right (take n l)) s.mem) (sym (ap (λ p. p.seen) e.0)) s.bank;
    agrees = subst (λ (x : List E × List Found). Agrees (nodes_of z) (steps_of z) (path_of z) (long_of z) (right (take n x.0)) x.1 k n s.mem) (λ i. (sym (ap (λ p. p.seen) e.0) i, sym (ap (λ t. t.kept) e.1) i)) s.agrees;
  }

  -- the view after
  counted_after : (began v w : View E) (t : Tally) (marks : List Mark) (sets : List (List ℕ)) → KnowTheSame v w → Counted right z k n began v t marks sets → Counted right z k n began w t marks sets
  counted_after began v w t marks sets e h = let since = since_same v w e in record {
    founds = h.founds;
    computeds = h.computeds;
    owns = h.owns;
    since = since_trans n began v w h.since since;
    sound = sound_same v w e h.sound;
    touched = subst (λ (x : ℕ). began.touch.touches + t.found + t.computed ≤ x) (sym (ap (λ u. u.touches) e.1)) h.touched;
    shows = all_show_since right z k n v w since began marks h.shows;
    each_new = h.each_new;
    wrote = wrote_on (IsAt k n (WordOf right z k n v (map step_of marks) sets)) (IsAt k n (WordOf right z k n w (map step_of marks) sets)) (IsAt k n (WordOf right z k n w (map step_of marks) sets)) began v w
        (λ f i. (i.0, i.1, word_since right z k n v w since (map step_of marks) (map step_of marks) sets sets (among_same (map step_of marks)) (among_same sets) f.word i.2)) (λ f i. i) h.wrote
        (wrote_none (IsAt k n (WordOf right z k n w (map step_of marks) sets)) v w (ap (λ u. u.wrote) e.1));
    settled = h.settled;
    blocked = λ x i. key_since z k n v w since x (h.blocked x i);
    some_own = λ x i. ⊎_elim (λ (l : 0 < t.own). inl l)
        (λ (y : (x : List ℕ) × Among sets x × ((word : ℕ) × SetBlocked right z k n v x word)). inr (y.0, y.1, (y.2.0, blocked_since right z k n v w since y.0 y.2.0 y.2.1))) (h.some_own x i);
  }

  module _ (before began v : View E) (e : KnowTheSame before began) where
    shows_before : (t : Fate) (s : Step) → Shows right z k n began v t s → Shows right z k n before v t s
    shows_before found s h = h
    shows_before computed s h = let i = h.gap in record {
      stands = h.stands;
      gap = record { turn = i.turn; within = i.within; passed = i.passed; touch = i.touch; behind = subst (λ (x : ℕ). x < i.touch) (ap (λ u. u.touches) e.1) i.behind; at = i.at; gap = i.gap };
    }
    shows_before own s h = h

    new_before : (ms : List Mark) (t : Fate) (s : Step) → IsNew right z k n began ms t s → IsNew right z k n before ms t s
    new_before ms found s h = tt
    new_before ms computed s h = ((λ kept. h.0 (kept_since right z k n before began (since_same before began e) s kept)), h.1)
    new_before ms own s h = tt

    each_new_before : (ms : List Mark) → EachNew right z k n began ms → EachNew right z k n before ms
    each_new_before [] h = tt
    each_new_before (m ∷ ms) h = (new_before ms m.fate m.step h.0, each_new_before ms h.1)

    -- the view before
    counted_before : (t : Tally) (marks : List Mark) (sets : List (List ℕ)) → Counted right z k n began v t marks sets → Counted right z k n before v t marks sets
    counted_before t marks sets h = record {
      founds = h.founds;
      computeds = h.computeds;
      owns = h.owns;
      since = since_trans n before began v (since_same before began e) h.since;
      sound = h.sound;
      touched = subst (λ (x : ℕ). x + t.found + t.computed ≤ v.touch.touches) (ap (λ u. u.touches) e.1) h.touched;
      shows = All-weaker (λ (m : Mark). Shows right z k n began v m.fate m.step) (λ (m : Mark). Shows right z k n before v m.fate m.step) (λ m i. shows_before m.fate m.step i) marks h.shows;
      each_new = each_new_before marks h.each_new;
      wrote = record { words = h.wrote.words; since = h.wrote.since ∙ ap (λ l. h.wrote.words ++ l) (ap (λ u. u.wrote) e.1); each = h.wrote.each };
      settled = h.settled;
      blocked = h.blocked;
      some_own = h.some_own;
    }

  pub moved : (before began v after : View E) (t : Tally) (steps : List Step) (sets : List (List ℕ)) → KnowTheSame before began → KnowTheSame v after → Counts right z k n began v t steps sets → Counts right z k n before after t steps sets
  moved before began v after t steps sets e d h = record {
    marks = h.marks;
    held = h.held;
    steps_are = h.steps_are;
    sets_are = h.sets_are;
    counted = counted_before before began after e t h.marks h.held (counted_after began v after t h.marks h.held d h.counted);
  }
