-- A step whose word is kept has no cause to be the call's own, and the same step has the same numbers.
use Rattle.std.proofs.Common.{◌≡◌, ℕ, ◌+◌, ◌*◌, Bool, true, false, List, take, refl, ◌∙◌, subst, arith}
use Rattle.px_text.specs.declared.op.Op.{Op}
use Rattle.px_text.specs.Operands.{Operand, index, set_of, first_is_set, second_is_set}
use Rattle.px_afa.specs.Steps.{Step}
use Rattle.px_rule.specs.declared.shape.Shape.{Shape}
use Rattle.px_rule.specs.declared.view.View.{View}
use Rattle.px_rule.specs.declared.view.Found.{Found}
use Rattle.px_rule.specs.Kinds.{kind_of}
use Rattle.px_rule.specs.Words.{Small, step_word, key_of}
use Rattle.px_rule.specs.Known.{Stands, plain, named, answered}
use Rattle.px_rule.specs.Kept.{NoneKept, Tells, Sound}
use Rattle.px_rule.proofs.Apart.{one_name, kept_apart, set_apart}
use Rattle.px_call.specs.Steps.{Same, Numbered, StepKept, OperandBlocked, Cause, by_first, by_second, by_answer, by_key}

key_of_fields : (kind a b r : ℕ) → Small r → key_of (kind * 1152921504606846976 + a * 1099511627776 + b * 1048576 + r) ≡ key_of (kind * 1152921504606846976 + a * 1099511627776 + b * 1048576 + 0)
key_of_fields kind a b r s = omega arith

-- the key of a step's word does not tell its result
pub key_of_step : (op : Op) (a b r : ℕ) → Small r → key_of (step_word op a b r) ≡ key_of (step_word op a b 0)
key_of_step op a b r s = key_of_fields (kind_of op) a b r s

-- only a set's number stands for a set
no_set : (nodes : ℕ) (right : Op → Operand → Operand → List ℕ → Type 0) (kept : List Found) (k n : ℕ) (t : Bool) (a : ℕ) (o : Operand) (x : List ℕ) → t ≡ false → o ≡ set_of x → Stands nodes right kept k n t a o → ⊥
no_set nodes right kept k n t a o x e d (plain _) = absurd (cc)
no_set nodes right kept k n t a o x e d (named _ y h) = absurd (cc)
no_set nodes right kept k n t a o x e d (answered p op b c _ first second y small has is_b is_c is) = absurd (cc)

module _ {E : Type 0} (right : List E → Op → Operand → Operand → List ℕ → Type 0) (z : Shape) (k n : ℕ) (v : View E)
    (one_answer : (op : Op) (a b : Operand) (x y : List ℕ) → right (take n v.past.seen) op a b x → right (take n v.past.seen) op a b y → x ≡ y) (sound : Sound right z k n v) where
  operand_apart : (t : Bool) (a : ℕ) (o : Operand) → Tells right z k n v t a o → OperandBlocked right z k n v o → ⊥
  operand_apart t a (index i) h b = b
  operand_apart true a (set_of x) h b = set_apart right z k n v one_answer sound a b.0 x h b.1
  operand_apart false a (set_of x) h b = no_set _ _ _ _ _ false a (set_of x) x refl refl h

  -- the same step has the same numbers
  pub same_numbers : (s t : Step) (a b c d : ℕ) → Same s t → Numbered right z k n v s a b → Numbered right z k n v t c d → (a ≡ c) × (b ≡ d)
  same_numbers s t a b c d e h j = (
    one_name right z k n v one_answer sound (first_is_set t.op) a c t.a (subst (λ (q : Op × Operand). Tells right z k n v (first_is_set q.0) a q.1) (λ i. (e.0 i, e.1 i)) h.first) j.first,
    one_name right z k n v one_answer sound (second_is_set t.op) b d t.b (subst (λ (q : Op × Operand). Tells right z k n v (second_is_set q.0) b q.1) (λ i. (e.0 i, e.2 i)) h.second) j.second,
  )

  -- a step whose word is kept has no cause
  pub cause_apart : (s : Step) → StepKept right z k n v s → Cause right z k n v s → ⊥
  cause_apart s h (by_first b) = operand_apart (first_is_set s.op) h.a s.a h.numbers.first b
  cause_apart s h (by_second b) = operand_apart (second_is_set s.op) h.b s.b h.numbers.second b
  cause_apart s h (by_answer b) = operand_apart true h.r (set_of s.answer) h.answer b
  cause_apart s h (by_key b) =
      let same = same_numbers s s h.a h.b b.a b.b (refl, refl, refl) h.numbers b.numbers in
      let key : key_of (step_word s.op h.a h.b h.r) ≡ key_of (step_word s.op b.a b.b 0) = key_of_step s.op h.a h.b h.r h.small ∙ (λ i. key_of (step_word s.op (same.0 i) (same.1 i) 0)) in
      kept_apart right z k n v one_answer sound h.place (step_word s.op h.a h.b h.r) (step_word s.op b.a b.b 0) h.kept key b.blocked

  -- a step whose key no kept word has is none that is kept
  pub none_apart : (s t : Step) (a b : ℕ) → Same t s → Numbered right z k n v s a b → NoneKept k n (step_word s.op a b 0) v → StepKept right z k n v t → ⊥
  none_apart s t a b e numbers none h =
      let same = same_numbers t s h.a h.b a b e h.numbers numbers in
      none h.place (step_word t.op h.a h.b h.r) h.kept (key_of_step t.op h.a h.b h.r h.small ∙ (λ i. key_of (step_word (e.0 i) (same.0 i) (same.1 i) 0)))
