-- What a view shows of steps and of words lasts over all calls of its seat.
use Rattle.std.proofs.Common.{ℕ, suc, true, List, ◌∷◌, All}
use Rattle.std.proofs.lemmas.List.Elements.{All-weaker}
use Rattle.px_text.specs.declared.op.Op.{Op}
use Rattle.px_text.specs.Operands.{Operand, index, set_of, first_is_set, second_is_set}
use Rattle.px_afa.specs.Steps.{Step}
use Rattle.px_rule.specs.declared.shape.Shape.{Shape}
use Rattle.px_rule.specs.declared.view.View.{View}
use Rattle.px_rule.specs.Words.{step_word}
use Rattle.px_rule.specs.Kept.{Since, SuffixWord}
use Rattle.px_rule.proofs.Since as view
use Rattle.px_rule.proofs.Since.{tells_since, key_since, gap_since, blocked_since}
use Rattle.px_call.specs.Steps.{Numbered, StepKept, StepComputed, OperandBlocked, Cause, by_first, by_second, by_answer, by_key}
use Rattle.px_call.specs.Counted.{Fate, found, computed, own, Mark, Among, Shows, SetOf, of_first, of_second, of_answer, of_held, WordOf, of_set, of_step}

module _ {E : Type 0} (right : List E → Op → Operand → Operand → List ℕ → Type 0) (z : Shape) (k n : ℕ) (v w : View E) (g : Since n v w) where
  pub numbered_since : (s : Step) (a b : ℕ) → Numbered right z k n v s a b → Numbered right z k n w s a b
  numbered_since s a b h = record {
    first = tells_since right z k n v w g (first_is_set s.op) a s.a h.first;
    second = tells_since right z k n v w g (second_is_set s.op) b s.b h.second;
    small = h.small;
  }

  abbrev pub kept_since : (s : Step) → StepKept right z k n v s → StepKept right z k n w s
  kept_since s h = record {
    a = h.a;
    b = h.b;
    r = h.r;
    place = h.place;
    numbers = numbered_since s h.a h.b h.numbers;
    small = h.small;
    answer = tells_since right z k n v w g true h.r (set_of s.answer) h.answer;
    kept = view.kept_since k n v w g h.place (step_word s.op h.a h.b h.r) h.kept;
  }

  pub operand_since : (o : Operand) → OperandBlocked right z k n v o → OperandBlocked right z k n w o
  operand_since (index a) h = h
  operand_since (set_of x) h = (h.0, blocked_since right z k n v w g x h.0 h.1)

  pub cause_since : (s : Step) → Cause right z k n v s → Cause right z k n w s
  cause_since s (by_first h) = by_first (operand_since s.a h)
  cause_since s (by_second h) = by_second (operand_since s.b h)
  cause_since s (by_answer h) = by_answer (operand_since (set_of s.answer) h)
  cause_since s (by_key h) = by_key (record { a = h.a; b = h.b; numbers = numbered_since s h.a h.b h.numbers; blocked = key_since z k n v w g (step_word s.op h.a h.b 0) h.blocked })

  pub computed_since : (began : View E) (s : Step) → StepComputed right z k n began v s → StepComputed right z k n began w s
  computed_since began s h = record { stands = kept_since s h.stands; gap = gap_since z k n v w g began.touch.touches (step_word s.op h.stands.a h.stands.b 0) h.gap }

  pub shows_since : (began : View E) (t : Fate) (s : Step) → Shows right z k n began v t s → Shows right z k n began w t s
  shows_since began found s h = kept_since s h
  shows_since began computed s h = computed_since began s h
  shows_since began own s h = cause_since s h

  pub all_show_since : (began : View E) (marks : List Mark) → All (λ (m : Mark). Shows right z k n began v m.fate m.step) marks → All (λ (m : Mark). Shows right z k n began w m.fate m.step) marks
  all_show_since began marks h =
      All-weaker (λ (m : Mark). Shows right z k n began v m.fate m.step) (λ (m : Mark). Shows right z k n began w m.fate m.step) (λ m i. shows_since began m.fate m.step i) marks h

  pub suffix_since : (x : List ℕ) (word : ℕ) → SuffixWord right z k n v x word → SuffixWord right z k n w x word
  suffix_since x word h = record { front = h.front; element = h.element; rest = h.rest; tail = h.tail; suffix = h.suffix; told = tells_since right z k n v w g true h.tail (set_of h.rest) h.told; word = h.word }

  -- with more steps and sets
  pub word_since : (steps steps' : List Step) (sets sets' : List (List ℕ)) → ((s : Step) → Among steps s → Among steps' s) → ((x : List ℕ) → Among sets x → Among sets' x)
      → (word : ℕ) → WordOf right z k n v steps sets word → WordOf right z k n w steps' sets' word
  word_since steps steps' sets sets' more held word (of_set x _ s h) = of_set x word (set_more x s) (suffix_since x word h)
    where
      set_more : (x : List ℕ) → SetOf steps sets x → SetOf steps' sets' x
      set_more x (of_first s _ i e) = of_first s x (more s i) e
      set_more x (of_second s _ i e) = of_second s x (more s i) e
      set_more _ (of_answer s i) = of_answer s (more s i)
      set_more x (of_held _ i) = of_held x (held x i)
  word_since steps steps' sets sets' more held _ (of_step s a b r i numbers answer) = of_step s a b r (more s i) (numbered_since s a b numbers) (tells_since right z k n v w g true r (set_of s.answer) answer)

-- what is among some is among them and one more
pub among_more : {A : Type 0} (y : A) (xs : List A) (x : A) → Among xs x → Among (y ∷ xs) x
among_more y xs x h = (suc h.0, h.1)

pub among_same : {A : Type 0} (xs : List A) (x : A) → Among xs x → Among xs x
among_same xs x h = h
