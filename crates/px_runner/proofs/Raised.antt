-- Chains of steps.
use Rattle.std.proofs.Common.{◌≡◌, ℕ, List, [], ◌∷◌, ◌++◌, IfOk, OnOk, sym, ◌∙◌, subst}
use Rattle.std.specs.Prelude.{Result, Ok, Err}
use Rattle.px_text.specs.declared.op.Op.TheVariants.{TextClass, NumberClass, Pop, Add, Mask}
use Rattle.px_text.specs.Operands.{index, set_of}
use Rattle.px_afa.specs.declared.state.State.{State}
use Rattle.px_afa.specs.Building.{Automata}
use Rattle.px_afa.specs.Sets.{add, mask}
use Rattle.px_afa.specs.Functions.{value_text, value_number, pop}
use Rattle.px_afa.specs.Classes.{text_class, number_class}
use Rattle.px_afa.specs.Steps.{Step, step, value_steps, raise_steps}
use Rattle.px_runner.specs.declared.held.Held.{Held}
use Rattle.px_runner.specs.declared.frame.Frame.{Frame}
use Rattle.px_runner.specs.Operands.{IsLabel}
use Rattle.px_runner.specs.Memos.{Advances}
use Rattle.px_runner.specs.Gives.{Holds, Gives, class_values, class_steps, raised}
use Rattle.px_runner.specs.Events.{Open, with_child, values_in, whole_set, end_steps}
use Rattle.px_runner.specs.Frames.{IsOpen}
use Rattle.px_runner.proofs.Made.{states_same, advances_on, keeps_on, is_open_on, gives_on, holds_on}

module _ {M : Type 0} (automata : M → Automata) (stands_for : M → Held → List ℕ → Type 0) (tells : M → List Step → List (List ℕ) → Type 0) where
  pub values_ok : {E : Type 0} (old m1 m2 new : M) (r : Result Held E) (a b : Held) (text number : ℕ) →
      Gives automata stands_for tells old m1 a (step (automata old).states TextClass (index 0) (index text) ∷ []) (value_text (automata old).states text) →
      Gives automata stands_for tells m1 m2 b (step (automata m1).states NumberClass (index 0) (index number) ∷ []) (value_number (automata m1).states number) →
      IfOk r (λ held. (x y : List ℕ) → Holds automata stands_for m2 a x → Holds automata stands_for m2 b y →
      Gives automata stands_for tells m2 new held (step (automata m2).states Add (set_of x) (set_of y) ∷ []) (add x y)) →
      IfOk r (λ held. Gives automata stands_for tells old new held (class_steps (automata old).states text number) (class_values (automata old).states text number))
  values_ok old m1 m2 new (Err e) a b text number f g h = h
  values_ok old m1 m2 new (Ok held) a b text number f g h =
      let second : Gives automata stands_for tells m1 m2 b (step (automata old).states NumberClass (index 0) (index number) ∷ []) (value_number (automata old).states number) =
      subst (λ s. Gives automata stands_for tells m1 m2 b (step s NumberClass (index 0) (index number) ∷ []) (value_number s number)) (states_same f.advances.keeps) g in
      gives_on (gives_on f second) (h (value_text (automata old).states text) (value_number (automata old).states number) (holds_on second.advances.keeps f.holds) second.holds)

  pub raise_ok : {E : Type 0} (old m1 m2 new : M) (r : Result Held E) (popped masked needed gathered set : Held) (label : ℕ) →
      ((s : List ℕ) → Holds automata stands_for old set s →
      Gives automata stands_for tells old m1 popped (step (automata old).states Pop (set_of s) (index label) ∷ []) (pop (automata old).states s label)) →
      ((x y : List ℕ) → Holds automata stands_for m1 popped x → Holds automata stands_for m1 needed y →
      Gives automata stands_for tells m1 m2 masked (step (automata m1).states Mask (set_of x) (set_of y) ∷ []) (mask x y)) →
      IfOk r (λ held. (x y : List ℕ) → Holds automata stands_for m2 gathered x → Holds automata stands_for m2 masked y →
      Gives automata stands_for tells m2 new held (step (automata m2).states Add (set_of x) (set_of y) ∷ []) (add x y)) →
      IfOk r (λ held. (n a s : List ℕ) → Holds automata stands_for old needed n → Holds automata stands_for old gathered a → Holds automata stands_for old set s →
      Gives automata stands_for tells old new held (raise_steps (automata old).states n a s label) (raised (automata old).states n a s label))
  raise_ok old m1 m2 new (Err e) popped masked needed gathered set label f g h = h
  raise_ok old m1 m2 new (Ok held) popped masked needed gathered set label f g h = λ n a s pn pa ps.
      let one = f s ps in
      let two = g (pop (automata old).states s label) n one.holds (holds_on one.advances.keeps pn) in
      let three = h a (mask (pop (automata old).states s label) n) (holds_on two.advances.keeps (holds_on one.advances.keeps pa)) two.holds in
      gives_on (gives_on one two) three

  -- the classes of a text under the same states
  pub text_values_ok : {E : Type 0} (old new : M) (r : Result Held E) (text : List ℕ) (t n : ℕ) →
      t ≡ text_class (automata old).states text → n ≡ number_class (automata old).states text →
      IfOk r (λ held. Gives automata stands_for tells old new held (class_steps (automata old).states t n) (class_values (automata old).states t n)) →
      IfOk r (λ held. Gives automata stands_for tells old new held (value_steps (automata old).states text) (values_in (automata old).states text))
  text_values_ok old new (Err e) text t n is_t is_n h = h
  text_values_ok old new (Ok held) text t n is_t is_n h =
      subst (λ t. Gives automata stands_for tells old new held (class_steps (automata old).states t (number_class (automata old).states text)) (class_values (automata old).states t (number_class (automata old).states text))) is_t
      (subst (λ n. Gives automata stands_for tells old new held (class_steps (automata old).states t n) (class_values (automata old).states t n)) is_n h)

  -- the frame got what was raised
  pub given_on : (old new : M) (frame : Frame) (gathered : Held) (set : Held) (label : ℕ) →
      ((n a s : List ℕ) → Holds automata stands_for old frame.needed n → Holds automata stands_for old frame.gathered a → Holds automata stands_for old set s →
      Gives automata stands_for tells old new gathered (raise_steps (automata old).states n a s label) (raised (automata old).states n a s label)) →
      (o : Open) (s text : List ℕ) → IsOpen automata stands_for old frame o → Holds automata stands_for old set s →
      IsOpen automata stands_for new (record { label = frame.label; needed = frame.needed; gathered = gathered; begins = frame.begins }) (with_child (automata old).states o s label text)
      × Advances automata stands_for tells old new (raise_steps (automata old).states o.needed o.gathered s label) []
  given_on old new frame gathered set label h o s text is ps =
      let made = h o.needed o.gathered s is.needed is.gathered ps in (
        record {
          label = is.label;
          known = subst (λ s. IsLabel s o.label) (sym (states_same made.advances.keeps)) is.known;
          needed = holds_on made.advances.keeps is.needed;
          gathered = made.holds;
        },
        made.advances,
      )

  pub close_ok : {A E : Type 0} (old m1 m2 new : M) (r : Result A E) (child parent after : Frame) (values set : Held) (text : List ℕ) →
      Gives automata stands_for tells old m1 values (value_steps (automata old).states text) (values_in (automata old).states text) →
      ((x y : List ℕ) → Holds automata stands_for m1 child.gathered x → Holds automata stands_for m1 values y →
      Gives automata stands_for tells m1 m2 set (step (automata m1).states Add (set_of x) (set_of y) ∷ []) (add x y)) →
      OnOk r ((o : Open) (s said : List ℕ) → IsOpen automata stands_for m2 parent o → Holds automata stands_for m2 set s →
      IsOpen automata stands_for new after (with_child (automata m2).states o s child.label said)
      × Advances automata stands_for tells m2 new (raise_steps (automata m2).states o.needed o.gathered s child.label) []) →
      OnOk r ((c p : Open) (said : List ℕ) → IsOpen automata stands_for old child c → IsOpen automata stands_for old parent p → c.text ≡ text →
      IsOpen automata stands_for new after (with_child (automata old).states p (whole_set (automata old).states c) c.label said)
      × Advances automata stands_for tells old new (end_steps (automata old).states c (p ∷ [])) [])
  close_ok old m1 m2 new (Err e) child parent after values set text f g h = h
  close_ok old m1 m2 new (Ok v) child parent after values set text f g h = λ c p said is round texts.
      let two = g c.gathered (values_in (automata old).states text) (holds_on f.advances.keeps is.gathered) f.holds in
      let keeps = keeps_on f.advances.keeps two.advances.keeps in
      let there = h p (add c.gathered (values_in (automata old).states text)) said (is_open_on keeps round) two.holds in
      let all = advances_on (advances_on f.advances two.advances) there.1 in
      let Q : List State → ℕ → List ℕ → Type 0 = λ s l t.
      IsOpen automata stands_for new after (with_child s p (add c.gathered (values_in (automata old).states t)) l said)
      × Advances automata stands_for tells old new
      (value_steps (automata old).states t ++ (step s Add (set_of c.gathered) (set_of (values_in (automata old).states t)) ∷ raise_steps s p.needed p.gathered (add c.gathered (values_in (automata old).states t)) l)) [] in
      subst (λ t. Q (automata old).states c.label t) (sym texts) (subst (λ l. Q (automata old).states l text) is.label (subst (λ s. Q s child.label text) (states_same keeps) (there.0, all)))
