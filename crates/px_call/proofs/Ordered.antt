-- What the counts show, over the steps in their order.
use Rattle.std.proofs.Common.{◌≡◌, ◌⊎◌, ℕ, zero, suc, ◌+◌, ◌<◌, List, [], ◌∷◌, ◌++◌, map, reverse, Option, Some, None, All, take, length, refl, sym, ap, ◌∙◌, subst, arith, inl, inr, ⊎_elim}
use Rattle.std.proofs.lemmas.List.{reverse-append, reverse-reverse, length-reverse}
use Rattle.std.proofs.lemmas.List.Elements.{All-nil, All-cons, All-head, All-tail, All-append}
use mathlib.Core.Option.{some, some-injective}
use lib.ListN.{get_elem?}
use Rattle.px_text.specs.declared.op.Op.{Op}
use Rattle.px_text.specs.Operands.{Operand, set_of}
use Rattle.px_afa.specs.Steps.{Step}
use Rattle.px_rule.specs.declared.shape.Shape.{Shape}
use Rattle.px_rule.specs.declared.view.View.{View}
use Rattle.px_call.specs.declared.tally.Tally.{Tally}
use Rattle.px_call.specs.Steps.{StepKept}
use Rattle.px_call.specs.Counted.{step_of, Among, Counts}
use Rattle.px_call.specs.Laws.{HeldFirst}
use Rattle.px_call.proofs.Marks.{add_up}
use Rattle.px_call.proofs.Again.{full_own, settled_keeps, again}

all_reverse : {A : Type 0} (P : A → Type 0) (xs : List A) → All P xs → All P (reverse xs)
all_reverse P [] h = All-nil P
all_reverse P (x ∷ xs) h = subst (All P) (sym (reverse-append (x ∷ []) xs))
    (All-append P (reverse xs) (x ∷ []) (all_reverse P xs (All-tail P x xs h)) (All-cons P x [] (All-head P x xs h) (All-nil P)))

last : {A : Type 0} (xs : List A) (y x : A) (i : ℕ) → get_elem? (xs ++ y ∷ []) i ≡ some x → Among xs x ⊎ (y ≡ x)
last [] y x zero e = inr (some-injective y x e)
last [] y x (suc i) e = absurd (cc)
last (z ∷ zs) y x zero e = inl (0, e)
last (z ∷ zs) y x (suc i) e = ⊎_elim (λ (a : Among zs x). inl (suc a.0, a.1)) (λ (s : y ≡ x). inr s) (last zs y x i e)

-- what is among some is among them in the other order
pub among_reverse : {A : Type 0} (xs : List A) (x : A) → Among (reverse xs) x → Among xs x
among_reverse [] x h = absurd (let e = h.1 in cc)
among_reverse (y ∷ ys) x h =
    let e : get_elem? (reverse ys ++ y ∷ []) h.0 ≡ some x = ap (λ l. get_elem? l h.0) (sym (reverse-append (y ∷ []) ys)) ∙ h.1 in
    ⊎_elim (λ (a : Among (reverse ys) x). let b = among_reverse ys x a in (suc b.0, b.1)) (λ (s : y ≡ x). (0, ap some s)) (last (reverse ys) y x h.0 e)

pub among_is : {A : Type 0} (xs ys : List A) (x : A) → xs ≡ ys → Among xs x → Among ys x
among_is xs ys x e h = (h.0, ap (λ l. get_elem? l h.0) (sym e) ∙ h.1)

is_none : (o : Option ℕ) → ((w : ℕ) → o ≡ Some w → ⊥) → o ≡ None
is_none None never = refl
is_none (Some w) never = absurd (never w refl)

no_above : (a : ℕ) → 0 < a → a ≡ 0 → ⊥
no_above a l e = omega arith

module _ {E : Type 0} (right : List E → Op → Operand → Operand → List ℕ → Type 0) (z : Shape) (k n : ℕ) (began v : View E) (t : Tally) (steps : List Step) (sets : List (List ℕ)) (h : Counts right z k n began v t steps sets) where
  -- the counts add up to the steps
  pub all_counted : t.found + t.computed + t.own ≡ length steps
  all_counted = (λ i. h.counted.founds i + h.counted.computeds i + h.counted.owns i) ∙ (add_up h.marks ∙ (sym (length-reverse (map step_of h.marks)) ∙ ap length (sym h.steps_are)))

  marked : steps ≡ reverse (map step_of h.marks) → reverse steps ≡ map step_of h.marks
  marked e = ap reverse e ∙ reverse-reverse (map step_of h.marks)

  -- what is in order is among the marks
  pub in_marks : (s : Step) → Among steps s → Among (map step_of h.marks) s
  in_marks s i = among_reverse (map step_of h.marks) s (among_is steps (reverse (map step_of h.marks)) s h.steps_are i)

  pub from_marks : (s : Step) → Among (map step_of h.marks) s → Among steps s
  from_marks s i = among_reverse steps s (among_is (map step_of h.marks) (reverse steps) s (sym (marked h.steps_are)) i)

  pub from_held : (x : List ℕ) → Among h.held x → Among sets x
  from_held x i = among_reverse sets x (among_is h.held (reverse sets) x (sym (ap reverse h.sets_are ∙ reverse-reverse h.held)) i)

  module _ (one_answer : (op : Op) (a b : Operand) (x y : List ℕ) → right (take n v.past.seen) op a b x → right (take n v.past.seen) op a b y → x ≡ y) where
    -- where no path was full the word of each step is kept
    pub settled : t.full ≡ None → All (StepKept right z k n v) steps
    settled e = subst (All (StepKept right z k n v)) (sym h.steps_are) (all_reverse (StepKept right z k n v) (map step_of h.marks) (settled_keeps right z k n began v one_answer t h.marks h.held h.counted e))

    -- where a path was full some step is the call's own
    pub full_some : HeldFirst steps sets → (w : ℕ) → t.full ≡ Some w → 0 < t.own
    full_some held w e = full_own right z k n began v one_answer t h.marks h.held w h.counted
        (λ x i. ⊎_elim (λ (e : x ≡ []). inl e) (λ (s : (s : Step) × Among steps s × (s.a ≡ set_of x)). inr (s.0, in_marks s.0 s.1, s.2)) (held x (from_held x i))) e

    -- where each step was kept when the call began, none is computed, none is own, and no path was full
    pub second : HeldFirst steps sets → All (StepKept right z k n began) steps → (t.computed ≡ 0) × (t.own ≡ 0) × (t.full ≡ None)
    second held kept =
        let r = again right z k n began v one_answer t h.marks h.held h.counted (subst (All (StepKept right z k n began)) (marked h.steps_are) (all_reverse (StepKept right z k n began) steps kept)) in
        (r.0, r.1, is_none t.full (λ w e. no_above t.own (full_some held w e) r.1))
