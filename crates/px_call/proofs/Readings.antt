-- What the operands of a step stand for lasts while the view grows, and the numbers of a step of the program.
use Rattle.std.proofs.Common.{◌≡◌, ℕ, ◌+◌, ◌*◌, ◌<◌, ◌≤◌, Bool, true, false, List, take, length, Some, None, refl, sym, ap, ◌∙◌, subst, arith}
use Rattle.px_text.specs.declared.op.Op.{Op}
use Rattle.px_text.specs.declared.op.Op.TheVariants.{TextClass, NumberClass, Pop, Add, Push, Mask}
use Rattle.px_text.specs.Operands.{Operand, index, set_of, first_is_set, second_is_set}
use Rattle.px_afa.specs.declared.state.State.{State}
use Rattle.px_afa.specs.Building.{Automata}
use Rattle.px_afa.specs.Labels.{names_of}
use Rattle.px_afa.specs.Classes.{literals_of, constants_of}
use Rattle.px_afa.specs.Steps.{TakesOperands, answer_of, Step, step}
use Rattle.px_afa.proofs.Sizes.{names-few, literals-few, constants-few}
use Rattle.px_rule.specs.declared.shape.Shape.{Shape}
use Rattle.px_rule.specs.declared.view.View.{View}
use Rattle.px_rule.specs.declared.view.Stay.{Stay}
use Rattle.px_rule.specs.Words.{Small}
use Rattle.px_rule.specs.Table.{bank_in, version_in}
use Rattle.px_rule.specs.Known.{plain}
use Rattle.px_rule.specs.Kept.{Grew, Tells}
use Rattle.px_rule.proofs.Lasting.{grew_trans, stands_grew}
use Rattle.px_rule.proofs.Since.{since_grew}
use Rattle.px_intern.specs.Answers.{Names}
use Rattle.px_runner.specs.declared.held.Held.{Held}
use Rattle.px_runner.specs.declared.held.Held.TheVariants.{Plain, Numbered, Own}
use Rattle.px_runner.specs.Operands.{IsOperand, AreOfProgram, AreOperands}
use Rattle.px_runner.specs.Remembering.{number_of}
use Rattle.px_call.specs.Steps.{Asked}
use Rattle.px_call.specs.Memory.{IsProgramAt}
use Rattle.px_call.specs.Values.{IsValue, OnlyLooked, IsSetOf, AreRead}
use Rattle.px_call.proofs.Lasting.{numbered_since}

some_one : (x y : ℕ) → Some x ≡ Some y → x ≡ y
some_one x y e = cc

no_some : (x : ℕ) → None ≡ Some x → ⊥
no_some x e = cc

-- what holds at the place where one view is inside holds at that of the other
pub here : {E : Type 0} (P : ℕ → ℕ → Type 0) (v w : View E) → Grew v w → P (bank_in v.stay.place) (version_in v.stay.place) → P (bank_in w.stay.place) (version_in w.stay.place)
here P v w g h = subst (λ (s : Stay). P (bank_in s.place) (version_in s.place)) (sym g.stay) h

pub there : {E : Type 0} (P : ℕ → ℕ → Type 0) (v w : View E) → Grew v w → P (bank_in w.stay.place) (version_in w.stay.place) → P (bank_in v.stay.place) (version_in v.stay.place)
there P v w g h = subst (λ (s : Stay). P (bank_in s.place) (version_in s.place)) g.stay h

module _ {E : Type 0} (right : List E → Op → Operand → Operand → List ℕ → Type 0) (z : Shape) where
  pub names_grew : (v w : View E) → Grew v w → (s : ℕ) (x : List ℕ) → Names right z v s x → Names right z w s x
  names_grew v w g s x h = here (λ (k n : ℕ). Tells right z k n w true s (set_of x)) v w g (stands_grew right z (bank_in v.stay.place) (version_in v.stay.place) v w g true s (set_of x) h)

  pub value_grew : (v w : View E) → Grew v w → (held : Held) (x : List ℕ) → IsValue right z v held x → IsValue right z w held x
  value_grew v w g (Plain a) x h = h
  value_grew v w g (Numbered s) x h = names_grew v w g s x h
  value_grew v w g (Own set) x h = h

  pub operand_grew : (v w : View E) → Grew v w → (held : Held) (o : Operand) → IsOperand (IsValue right z v) held o → IsOperand (IsValue right z w) held o
  operand_grew v w g held (set_of x) h = value_grew v w g held x h
  operand_grew v w g held (index k) h = h

  pub operands_grew : (states : List State) (v w : View E) → Grew v w → (op : Op) (p q : Held) (x y : Operand) → AreOperands states (IsValue right z v) op p q x y → AreOperands states (IsValue right z w) op p q x y
  operands_grew states v w g op p q x y h = record { first = operand_grew v w g p x h.first; second = operand_grew v w g q y h.second; taken = h.taken; known = h.known }

  pub looked_trans : (u v w : View E) → OnlyLooked right z u v → OnlyLooked right z v w → OnlyLooked right z u w
  looked_trans u v w a b = record { grew = grew_trans u v w a.grew b.grew; sound = b.sound; wrote = b.wrote ∙ a.wrote }

  -- the sets that were read, the second in a later view
  pub are_read : (states : List State) (v u : View E) → Grew v u → (op : Op) (p q : Held) (first second : List ℕ) → ((x : List ℕ) → IsValue right z v p x → first ≡ x) → ((x : List ℕ) → IsValue right z u q x → second ≡ x)
      → (x y : Operand) → AreOperands states (IsValue right z v) op p q x y → AreRead op first second q x y
  are_read states v u g op p q first second is_first is_second x y h = record { first_is = first_of x h.first; second_is = second_of y h.second; taken = h.taken }
    where
      first_of : (x : Operand) → IsOperand (IsValue right z v) p x → IsSetOf first x
      first_of (set_of x) i = is_first x i
      first_of (index k) i = tt

      second_of : (y : Operand) → IsOperand (IsValue right z v) q y → IsOperand (λ _ set. second ≡ set) q y
      second_of (set_of y) i = is_second y (value_grew v u g q y i)
      second_of (index k) i = i

  abbrev Fits : Bool → Operand → Type 0
  Fits true (set_of x) = Unit {0}
  Fits false (index k) = Unit {0}
  Fits _ _ = ⊥

  first_fits : (op : Op) (x y : Operand) → TakesOperands op x y → Fits (first_is_set op) x
  first_fits TextClass (index k) (index l) h = tt
  first_fits TextClass (index k) (set_of l) h = absurd h
  first_fits TextClass (set_of k) y h = absurd h
  first_fits NumberClass (index k) (index l) h = tt
  first_fits NumberClass (index k) (set_of l) h = absurd h
  first_fits NumberClass (set_of k) y h = absurd h
  first_fits Pop (set_of x) y h = tt
  first_fits Pop (index k) y h = absurd h
  first_fits Add (set_of x) y h = tt
  first_fits Add (index k) y h = absurd h
  first_fits Push (set_of x) y h = tt
  first_fits Push (index k) y h = absurd h
  first_fits Mask (set_of x) y h = tt
  first_fits Mask (index k) y h = absurd h

  second_fits : (op : Op) (x y : Operand) → TakesOperands op x y → Fits (second_is_set op) y
  second_fits TextClass (index k) (index l) h = tt
  second_fits TextClass (index k) (set_of l) h = absurd h
  second_fits TextClass (set_of k) y h = absurd h
  second_fits NumberClass (index k) (index l) h = tt
  second_fits NumberClass (index k) (set_of l) h = absurd h
  second_fits NumberClass (set_of k) y h = absurd h
  second_fits Pop (set_of x) (index l) h = tt
  second_fits Pop (set_of x) (set_of l) h = absurd h
  second_fits Pop (index k) y h = absurd h
  second_fits Add (set_of x) (set_of l) h = tt
  second_fits Add (set_of x) (index l) h = absurd h
  second_fits Add (index k) y h = absurd h
  second_fits Push (set_of x) (index l) h = tt
  second_fits Push (set_of x) (set_of l) h = absurd h
  second_fits Push (index k) y h = absurd h
  second_fits Mask (set_of x) (set_of l) h = tt
  second_fits Mask (set_of x) (index l) h = absurd h
  second_fits Mask (index k) y h = absurd h

  tells_of : (v : View E) (t : Bool) (held : Held) (o : Operand) (a : ℕ) → number_of held ≡ Some a → IsOperand (IsValue right z v) held o → Fits t o → Tells right z (bank_in v.stay.place) (version_in v.stay.place) v t a o
  tells_of v true (Plain m) (set_of x) a e h f = absurd h
  tells_of v true (Numbered s) (set_of x) a e h f = subst (λ (q : ℕ). Tells right z (bank_in v.stay.place) (version_in v.stay.place) v true q (set_of x)) (some_one s a e) h
  tells_of v true (Own set) (set_of x) a e h f = absurd (no_some a e)
  tells_of v true held (index k) a e h f = absurd f
  tells_of v false (Plain m) (index k) a e h f = subst (λ (q : ℕ). Tells right z (bank_in v.stay.place) (version_in v.stay.place) v false q (index k)) (sym h ∙ some_one m a e) (plain k)
  tells_of v false (Numbered s) (index k) a e h f = absurd h
  tells_of v false (Own set) (index k) a e h f = absurd h
  tells_of v false held (set_of x) a e h f = absurd f

  -- a step of the program between numbers may be asked of the bank
  pub asked_of : (automata_of : List E → Automata) → ((log : List E) (op : Op) (x y : Operand) → right log op x y (answer_of (automata_of log).states op x y)) → (v : View E) (automata : Automata) → IsProgramAt automata_of v automata
      → (op : Op) (p q : Held) (a b : ℕ) (x y : Operand) → AreOperands automata.states (IsValue right z v) op p q x y → number_of p ≡ Some a → number_of q ≡ Some b → Small a → Small b
      → Asked right z (bank_in v.stay.place) (version_in v.stay.place) v op a b (step automata.states op x y)
  asked_of automata_of law v automata is op p q a b x y h e d sa sb = record {
    op_is = refl;
    numbers = record { first = tells_of v (first_is_set op) p x a e h.first (first_fits op x y h.taken); second = tells_of v (second_is_set op) q y b d h.second (second_fits op x y h.taken); small = (sa, sb) };
    is_right = subst (λ (au : Automata). right (take (version_in v.stay.place) v.past.seen) op x y (answer_of au.states op x y)) (sym is) (law (take (version_in v.stay.place) v.past.seen) op x y);
  }

  pub asked_grew : (k n : ℕ) (v w : View E) → Grew v w → (op : Op) (a b : ℕ) (s : Step) → Asked right z k n v op a b s → Asked right z k n w op a b s
  asked_grew k n v w g op a b s h = record {
    op_is = h.op_is;
    numbers = numbered_since right z k n v w (since_grew n v w g) s a b h.numbers;
    is_right = subst (λ l. right (take n l) s.op s.a s.b s.answer) (sym (ap (λ p. p.seen) g.past)) h.is_right;
  }

pub program_grew : {E : Type 0} (automata_of : List E → Automata) (v w : View E) → Grew v w → (automata : Automata) → IsProgramAt automata_of v automata → IsProgramAt automata_of w automata
program_grew automata_of v w g automata is = is ∙ (λ i. automata_of (take (version_in (sym g.stay i).place) (sym g.past i).seen))

number_small : (c n m : ℕ) → c ≤ 2 * n + 1 → n ≤ m → m ≤ 500_000 → c < 1048576
number_small c n m e h l = omega arith

label_small : (c n m : ℕ) → c < n + 3 → n ≤ m → m ≤ 500_000 → c < 1048576
label_small c n m e h l = omega arith

text_small : (c n m : ℕ) → c ≤ n → n ≤ m → m ≤ 500_000 → c < 1048576
text_small c n m e h l = omega arith

abbrev IndexIsSmall : Operand → Type 0
IndexIsSmall (index k) = k < 1048576
IndexIsSmall (set_of x) = Unit {0}

first_index : (states : List State) (op : Op) (x y : Operand) → TakesOperands op x y → IndexIsSmall x
first_index states TextClass (index k) (index l) h = omega arith
first_index states TextClass (index k) (set_of l) h = absurd h
first_index states NumberClass (index k) (index l) h = omega arith
first_index states NumberClass (index k) (set_of l) h = absurd h
first_index states Pop (index k) y h = absurd h
first_index states Add (index k) y h = absurd h
first_index states Push (index k) y h = absurd h
first_index states Mask (index k) y h = absurd h
first_index states op (set_of x) y h = tt

second_index : (states : List State) → length states ≤ 500_000 → (op : Op) (x y : Operand) → AreOfProgram states op x y → IndexIsSmall y
second_index states few op x (set_of y) h = tt
second_index states few TextClass x (index k) h = text_small k (length (literals_of states)) (length states) h (literals-few states) few
second_index states few NumberClass x (index k) h = number_small k (length (constants_of states)) (length states) h (constants-few states) few
second_index states few Pop (set_of x) (index k) h = label_small k (length (names_of states)) (length states) h.1 (names-few states) few
second_index states few Pop (index j) (index k) h = absurd h
second_index states few Add (set_of x) (index k) h = absurd h
second_index states few Add (index j) (index k) h = absurd h
second_index states few Push (set_of x) (index k) h = label_small k (length (names_of states)) (length states) h.1 (names-few states) few
second_index states few Push (index j) (index k) h = absurd h
second_index states few Mask (set_of x) (index k) h = absurd h
second_index states few Mask (index j) (index k) h = absurd h

-- the number of an operand that is a number of the bank, or a class or a label of a program
pub small_number : (stands_for : Held → List ℕ → Type 0) → ((s : ℕ) (x : List ℕ) → stands_for (Numbered s) x → Small s) → ((m : ℕ) (x : List ℕ) → stands_for (Plain m) x → ⊥) → (held : Held) (o : Operand) (a : ℕ) → number_of held ≡ Some a → IsOperand stands_for held o → IndexIsSmall o → Small a
small_number stands_for small none (Plain m) (index k) a e h i = subst (λ (q : ℕ). q < 1048576) (sym h ∙ some_one m a e) i
small_number stands_for small none (Plain m) (set_of x) a e h i = absurd (none m x h)
small_number stands_for small none (Numbered s) (index k) a e h i = absurd h
small_number stands_for small none (Numbered s) (set_of x) a e h i = subst (λ (q : ℕ). q < 1048576) (some_one s a e) (small s x h)
small_number stands_for small none (Own set) o a e h i = absurd (no_some a e)

pub small_numbers : (states : List State) → length states ≤ 500_000 → (stands_for : Held → List ℕ → Type 0) → ((s : ℕ) (x : List ℕ) → stands_for (Numbered s) x → Small s) → ((m : ℕ) (x : List ℕ) → stands_for (Plain m) x → ⊥)
    → (op : Op) (p q : Held) (a b : ℕ) (x y : Operand) → AreOperands states stands_for op p q x y → number_of p ≡ Some a → number_of q ≡ Some b → Small a × Small b
small_numbers states few stands_for small none op p q a b x y h e d = (
  small_number stands_for small none p x a e h.first (first_index states op x y h.taken),
  small_number stands_for small none q y b d h.second (second_index states few op x y h.known),
)
