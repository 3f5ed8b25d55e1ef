-- What the counts of a whole run show, over its marks.
use Rattle.std.proofs.Common.{◌≡◌, ◌⊎◌, ℕ, zero, suc, ◌+◌, ◌<◌, List, [], ◌∷◌, ◌++◌, map, Some, None, All, take, refl, sym, ◌∙◌, subst, arith, ⊎_elim}
use Rattle.std.proofs.lemmas.List.Elements.{All-nil, All-cons, All-head, All-tail}
use mathlib.Core.Option.{some, some-injective}
use lib.ListN.{get_elem?}
use Rattle.px_text.specs.declared.op.Op.{Op}
use Rattle.px_text.specs.Operands.{Operand, set_of}
use Rattle.px_afa.specs.Steps.{Step}
use Rattle.px_rule.specs.declared.shape.Shape.{Shape}
use Rattle.px_rule.specs.declared.view.View.{View}
use Rattle.px_rule.specs.Kept.{Since, Sound, SetBlocked}
use Rattle.px_call.specs.declared.tally.Tally.{Tally}
use Rattle.px_call.specs.Steps.{OperandBlocked, StepKept, Cause, by_first}
use Rattle.px_call.specs.Counted.{Fate, found, computed, own, Mark, step_of, is_computed, is_own, times, Among, Shows, IsNew, EachNew, Counted}
use Rattle.px_call.proofs.Lasting.{kept_since}
use Rattle.px_call.proofs.Apart.{cause_apart}

pub no_cons : (front : List ℕ) (e : ℕ) (es : List ℕ) → front ++ e ∷ es ≡ [] → ⊥
no_cons [] e es h = absurd (cc)
no_cons (x ∷ front) e es h = absurd (cc)

more_right : (a b : ℕ) → b ≡ 1 → 0 < a + b
more_right a b e = omega arith

more_left : (a b : ℕ) → 0 < a → 0 < a + b
more_left a b l = omega arith

both_none : (a b : ℕ) → a + b ≡ 0 → (a ≡ 0) × (b ≡ 0)
both_none a b e = (omega arith, omega arith)

add_none : (a b : ℕ) → a ≡ 0 → b ≡ 0 → a + b ≡ 0
add_none a b e d = omega arith

module _ {E : Type 0} (right : List E → Op → Operand → Operand → List ℕ → Type 0) (z : Shape) (k n : ℕ) (began v : View E)
    (one_answer : (op : Op) (a b : Operand) (x y : List ℕ) → right (take n v.past.seen) op a b x → right (take n v.past.seen) op a b y → x ≡ y) where
  abbrev ShownIn : Mark → Type 0
  ShownIn m = Shows right z k n began v m.fate m.step

  -- a step with a cause was not found or computed
  caused_own : (sound : Sound right z k n v) (t : Fate) (s : Step) → Shows right z k n began v t s → Cause right z k n v s → is_own t ≡ 1
  caused_own sound found s h c = absurd (cause_apart right z k n v one_answer sound s h c)
  caused_own sound computed s h c = absurd (cause_apart right z k n v one_answer sound s h.stands c)
  caused_own sound own s h c = refl

  some_own : (sound : Sound right z k n v) (marks : List Mark) (s : Step) (i : ℕ) → All ShownIn marks → get_elem? (map step_of marks) i ≡ some s → Cause right z k n v s → 0 < times is_own marks
  some_own sound [] s i h e c = absurd (cc)
  some_own sound (m ∷ ms) s zero h e c =
      more_right (times is_own ms) (is_own m.fate) (caused_own sound m.fate m.step (All-head ShownIn m ms h) (subst (Cause right z k n v) (sym (some-injective m.step s e)) c))
  some_own sound (m ∷ ms) s (suc i) h e c = more_left (times is_own ms) (is_own m.fate) (some_own sound ms s i (All-tail ShownIn m ms h) e c)

  -- where a path was full some step is the call's own, if each held set is empty or an operand of a step
  pub full_own : (t : Tally) (marks : List Mark) (sets : List (List ℕ)) (w : ℕ) → Counted right z k n began v t marks sets
      → ((x : List ℕ) → Among sets x → (x ≡ []) ⊎ ((s : Step) × Among (map step_of marks) s × (s.a ≡ set_of x))) → t.full ≡ Some w → 0 < t.own
  full_own t marks sets w h held e =
      ⊎_elim (λ (l : 0 < t.own). l)
      (λ (y : (x : List ℕ) × Among sets x × ((word : ℕ) × SetBlocked right z k n v x word)). ⊎_elim
      (λ (none : y.0 ≡ []). absurd (no_cons y.2.1.front y.2.1.element y.2.1.rest (sym y.2.1.suffix ∙ none)))
      (λ (s : (s : Step) × Among (map step_of marks) s × (s.a ≡ set_of y.0)). subst (λ (i : ℕ). 0 < i) (sym h.owns)
      (some_own h.sound marks s.0 s.1.0 h.shows s.1.1 (by_first (subst (OperandBlocked right z k n v) (sym s.2) y.2)))) (held y.0 y.1))
      (h.some_own w e)

  shown_kept : (t : Fate) (s : Step) → is_own t ≡ 0 → Shows right z k n began v t s → StepKept right z k n v s
  shown_kept found s e h = h
  shown_kept computed s e h = h.stands
  shown_kept own s e h = absurd (omega arith)

  all_kept : (marks : List Mark) → times is_own marks ≡ 0 → All ShownIn marks → All (StepKept right z k n v) (map step_of marks)
  all_kept [] e h = All-nil (StepKept right z k n v)
  all_kept (m ∷ ms) e h = let none = both_none (times is_own ms) (is_own m.fate) e in
      All-cons (StepKept right z k n v) m.step (map step_of ms) (shown_kept m.fate m.step none.1 (All-head ShownIn m ms h)) (all_kept ms none.0 (All-tail ShownIn m ms h))

  -- where no path was full the word of each step is kept
  pub settled_keeps : (t : Tally) (marks : List Mark) (sets : List (List ℕ)) → Counted right z k n began v t marks sets → t.full ≡ None → All (StepKept right z k n v) (map step_of marks)
  settled_keeps t marks sets h e = all_kept marks (sym h.owns ∙ h.settled e) h.shows

  neither : (sound : Sound right z k n v) → Since n began v → (t : Fate) (s : Step) (ms : List Mark) → Shows right z k n began v t s → IsNew right z k n began ms t s → StepKept right z k n began s → (is_computed t ≡ 0) × (is_own t ≡ 0)
  neither sound g found s ms h i kept = (refl, refl)
  neither sound g computed s ms h i kept = absurd (i.0 kept)
  neither sound g own s ms h i kept = absurd (cause_apart right z k n v one_answer sound s (kept_since right z k n began v g s kept) h)

  none_computed : (sound : Sound right z k n v) → Since n began v → (marks : List Mark) → All ShownIn marks → EachNew right z k n began marks → All (StepKept right z k n began) (map step_of marks)
      → (times is_computed marks ≡ 0) × (times is_own marks ≡ 0)
  none_computed sound g [] h i kept = (refl, refl)
  none_computed sound g (m ∷ ms) h i kept =
      let r = none_computed sound g ms (All-tail ShownIn m ms h) i.1 (All-tail (StepKept right z k n began) m.step (map step_of ms) kept) in
      let one = neither sound g m.fate m.step ms (All-head ShownIn m ms h) i.0 (All-head (StepKept right z k n began) m.step (map step_of ms) kept) in
      (add_none (times is_computed ms) (is_computed m.fate) r.0 one.0, add_none (times is_own ms) (is_own m.fate) r.1 one.1)

  -- where each step was kept when the call began, none is computed and none is the call's own
  pub again : (t : Tally) (marks : List Mark) (sets : List (List ℕ)) → Counted right z k n began v t marks sets → All (StepKept right z k n began) (map step_of marks) → (t.computed ≡ 0) × (t.own ≡ 0)
  again t marks sets h kept = let r = none_computed h.sound h.since marks h.shows h.each_new kept in (h.computeds ∙ r.0, h.owns ∙ r.1)
