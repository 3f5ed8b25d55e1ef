-- Look and Write keep the rule, and show a right bank.
use Rattle.std.proofs.Common.{◌≡◌, ℕ, ◌<◌, ◌≤◌, eqb, List, map, length, set, take, refl, sym, ap, ◌∙◌, subst}
use Rattle.std.specs.Prelude.{slice_set}
use Rattle.std.proofs.lemmas.List.{set-get_or}
use prog.Atomic.{either}
use Rattle.atomic_table.specs.Table.{State, Me, Act, Valid, stepped, Allows, carried_after, keeps}
use Rattle.px_text.specs.declared.op.Op.{Op}
use Rattle.px_text.specs.Operands.{Operand}
use Rattle.px_rule.specs.Words.{nodes_of, steps_of, size_of, place_at, place_word, path_of, long_of}
use Rattle.px_rule.specs.Known.{MayPut}
use Rattle.px_rule.specs.Places.{Places}
use Rattle.px_rule.specs.Rule.{touch_of, Rule}
use Rattle.px_rule.specs.Steps.{looked, written, Looked, Written, Shown}
use Rattle.px_rule.specs.declared.shape.Shape.{Shape}
use Rattle.px_rule.specs.declared.view.View.{View}
use Rattle.px_rule.specs.declared.view.Place.TheVariants.{Inside}
use Rattle.px_rule.proofs.Places as place_steps
use Rattle.px_rule.proofs.WordChanges.{place_is, place_here, place_beside, place_else}
use Rattle.px_rule.proofs.Assembly.{on_place, at_touch, inside_stand, same_front, shown_at, inside_pass}

module _ {E : Type 0} (who : E → ℕ) (legal : List E → Type 0) (right : List E → Op → Operand → Operand → List ℕ → Type 0) (z : Shape) where
  abbrev St : Type 0
  St = State (Unit {0}) (View E)

  abbrev M : Type 0
  M = Me (Unit {0}) (View E)

  abbrev Holds : St → Type 0
  Holds = Rule who legal right z

  module _ (short : (log : List E) → legal log → length log < 1048576) where
    -- what a step owes where the word is x
    abbrev Goes : St → ℕ → M → ℕ → (ℕ → ℕ) → (ℕ → View E → Type 0) → ℕ → Type 0
    Goes s id me i f then x = (w : View E) × (a : Act (Unit {0})) × Valid s.homes me.1 a × Holds (stepped s i (f x) id me.1 w a) × (then x w × (carried_after me.1 a ≡ me.1))

    pub looks : (slots id k n p : ℕ) (me : M) → me.0.stay.place ≡ Inside k n → n ≤ length me.0.past.seen → p < size_of z
        → Allows Holds slots id me (place_at z k p) (λ x. x) (λ x after. (Looked k n p me.0 x after.0 × Shown right z k n p me.0 x) × (after.1 ≡ me.1))
    looks slots id k n p me inside low within s h _ at _ =
        let v = me.0 in
        let x : ℕ = place_word z s.words k p in
        let b = inside_stand who legal right z s h id v at k n inside in
        let P = Places (nodes_of z) (steps_of z) (path_of z) (long_of z) right h.log h.stands in
        let front = same_front who legal right z s h id v at n low in
        let R = right (take n v.past.seen) in
        let same : slice_set s.words (place_at z k p) x ≡ s.words = ap (slice_set s.words (place_at z k p)) (sym (place_is z s.words k p within)) ∙ set-get_or s.words (place_at z k p) 0 in
        subst (Goes s id me (place_at z k p) (λ y. y) (λ y w. Looked k n p v y w × Shown right z k n p v y)) (sym (place_is z s.words k p within)) (
          record v { touch = looked k n p x v.touch },
          keeps,
          tt,
          on_place who legal right z s h id v at k p x (looked k n p x v.touch) (λ none. absurd (inside_pass who legal right z s h id v at k n inside none))
              (subst (λ (ws : List ℕ). P (place_word z ws) (set (map touch_of s.views) id (looked k n p x v.touch))) (sym same)
              (place_steps.looks (nodes_of z) (steps_of z) (path_of z) (long_of z) right h.log h.stands (place_word z s.words) (map touch_of s.views) h.places id k n p v.touch b.0 (at_touch who legal right z s h id v at) b.1 b.2 b.3 within)),
          ((refl, shown_at who legal right z s h id v at k n p inside low), refl),
        )

    pub puts : (slots id k n p word : ℕ) (me : M) → me.0.stay.place ≡ Inside k n → n ≤ length me.0.past.seen
        → ((log : List E) (op : Op) (a c : Operand) (x y : List ℕ) → right log op a c x → right log op a c y → x ≡ y)
        → MayPut (nodes_of z) (steps_of z) (path_of z) (long_of z) (right (take n me.0.past.seen)) me.0.touch.kept k n p word → k < z.banks
        → Allows Holds slots id me (place_at z k p) (λ x. either (eqb x 0) word x) (λ x after. (Written k n p word me.0 x after.0 × Shown right z k n p me.0 x) × (after.1 ≡ me.1))
    puts slots id k n p word me inside low one may below s h _ at _ =
        let v = me.0 in
        let x : ℕ = place_word z s.words k p in
        let f : ℕ → ℕ = λ y. either (eqb y 0) word y in
        let b = inside_stand who legal right z s h id v at k n inside in
        let front = same_front who legal right z s h id v at n low in
        let words' : List ℕ = slice_set s.words (place_at z k p) (f x) in
        subst (Goes s id me (place_at z k p) f (λ y w. Written k n p word v y w × Shown right z k n p v y)) (sym (place_is z s.words k p may.within)) (
          record v { touch = written k n p word x v.touch },
          keeps,
          tt,
          on_place who legal right z s h id v at k p (f x) (written k n p word x v.touch) (λ none. absurd (inside_pass who legal right z s h id v at k n inside none))
              (place_steps.puts (nodes_of z) (steps_of z) (path_of z) (long_of z) right h.log h.stands (place_word z s.words) (map touch_of s.views) h.places (place_word z words') id k n p word v.touch b.0 (at_touch who legal right z s h id v at) b.1 b.2 b.3
              (one (take n h.log)) (subst (λ (l : List E). MayPut (nodes_of z) (steps_of z) (path_of z) (long_of z) (right l) v.touch.kept k n p word) (sym front) may)
              (place_here z s.words k p (f x) h.sized below may.within) (λ q no. place_beside z s.words k p (f x) q no) (λ j q no. place_else z s.words k p (f x) j q may.within no)),
          ((refl, shown_at who legal right z s h id v at k n p inside low), refl),
        )
