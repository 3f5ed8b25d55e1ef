-- What a view keeps stands in one right bank, after each look and each write, and what the writes were.
use Rattle.std.proofs.Common.{◌≡◌, ◌≢◌, ℕ, zero, suc, ◌+◌, ◌<◌, Bool, true, false, cond, eqb, List, [], ◌∷◌, ◌++◌, take, All, refl, sym, ap, ◌∙◌, subst, eq-eqb, ne_eqb}
use Rattle.std.proofs.lemmas.List.{append_assoc}
use Rattle.std.proofs.lemmas.List.Elements.{All-nil, All-cons, All-append}
use mathlib.Core.Logic.{dite}
use mathlib.Core.Option.{some, some-injective}
use native.Mathlib.Decide.{ℕ_discrete}
use lib.ListN.{get_elem?}
use Rattle.px_text.specs.declared.op.Op.{Op}
use Rattle.px_rule.specs.declared.shape.Shape.{Shape}
use Rattle.px_rule.specs.declared.view.View.{View}
use Rattle.px_rule.specs.declared.view.Found.{Found}
use Rattle.px_text.specs.Operands.{Operand, set_of, first_is_set, second_is_set}
use Rattle.px_rule.specs.Words.{key_of, nodes_of, steps_of, path_of, long_of}
use Rattle.px_rule.specs.RightBanks.{RightBank}
use Rattle.px_rule.specs.Known.{found, Has, MayPut}
use Rattle.px_rule.specs.Steps.{Looked, Written, Shown}
use Rattle.px_rule.proofs.RightBanks.{MayWrite, writes}
use Rattle.px_rule.proofs.Known.{stands_sound}
use Rattle.px_rule.specs.Kept.{Wrote, Sound}
use Rattle.px_rule.proofs.Lasting.{names_in}

abbrev place_in : Found → ℕ
place_in f = f.place

module _ {E : Type 0} (right : List E → Op → Operand → Operand → List ℕ → Type 0) (z : Shape) (k n : ℕ) where
  same_sound : (v w : View E) → w.past ≡ v.past → w.touch.kept ≡ v.touch.kept → Sound right z k n v → Sound right z k n w
  same_sound v w past kept s = record {
    mem = s.mem;
    bank = subst (λ (l : List E). RightBank (nodes_of z) (steps_of z) (path_of z) (long_of z) (right (take n l)) s.mem) (sym (ap (λ p. p.seen) past)) s.bank;
    agrees = λ q x h. s.agrees q x (h.0, ap (λ l. get_elem? l h.0) (sym kept) ∙ h.1);
  }

  -- one word more, which stands where it is kept
  more_sound : (v w : View E) (p x : ℕ) (mem : ℕ → ℕ) → w.past ≡ v.past → w.touch.kept ≡ found k n p x ∷ v.touch.kept
      → RightBank (nodes_of z) (steps_of z) (path_of z) (long_of z) (right (take n v.past.seen)) mem → mem p ≡ x → x ≢ 0 → p < nodes_of z + steps_of z
      → ((q y : ℕ) → Has (nodes_of z) (right (take n v.past.seen)) v.touch.kept k n q y → (mem q ≡ y) × (y ≢ 0) × (q < nodes_of z + steps_of z)) → Sound right z k n w
  more_sound v w p x mem past kept bank here some_word within agrees = record {
    mem = mem;
    bank = subst (λ (l : List E). RightBank (nodes_of z) (steps_of z) (path_of z) (long_of z) (right (take n l)) mem) (sym (ap (λ p. p.seen) past)) bank;
    agrees = λ q y h. at q y h.0 (ap (λ l. get_elem? l h.0) (sym kept) ∙ h.1);
  }
    where
      at : (q y i : ℕ) → get_elem? (found k n p x ∷ v.touch.kept) i ≡ some (found k n q y) → (mem q ≡ y) × (y ≢ 0) × (q < nodes_of z + steps_of z)
      at q y zero e =
          let f = some-injective (found k n p x) (found k n q y) e in
          let ps : p ≡ q = ap place_in f in
          let xs : x ≡ y = ap (λ (g : Found). g.word) f in
          (ap mem (sym ps) ∙ (here ∙ xs), subst (λ (i : ℕ). i ≢ 0) xs some_word, subst (λ (i : ℕ). i < nodes_of z + steps_of z) ps within)
      at q y (suc i) e = agrees q y (i, e)

  pub sound_look : (p x : ℕ) (v w : View E) → p < nodes_of z + steps_of z → Looked k n p v x w → Shown right z k n p v x → Sound right z k n w
  sound_look p x v w within e s = dite (ℕ_discrete x 0)
      (λ none. same_sound v w (ap (λ (u : View E). u.past) e) (ap (λ (u : View E). u.touch.kept) e ∙ ap (λ (t : Bool). cond t v.touch.kept (found k n p x ∷ v.touch.kept)) (eq-eqb x 0 none)) (record { mem = s.mem; bank = s.bank; agrees = s.agrees }))
      (λ some_word. more_sound v w p x s.mem (ap (λ (u : View E). u.past) e) (ap (λ (u : View E). u.touch.kept) e ∙ ap (λ (t : Bool). cond t v.touch.kept (found k n p x ∷ v.touch.kept)) (ne_eqb x 0 some_word)) s.bank s.here some_word within s.agrees)

  may_write : (v : View E) (p w : ℕ) (mem : ℕ → ℕ) → ((op : Op) (a b : Operand) (x y : List ℕ) → right (take n v.past.seen) op a b x → right (take n v.past.seen) op a b y → x ≡ y)
      → RightBank (nodes_of z) (steps_of z) (path_of z) (long_of z) (right (take n v.past.seen)) mem
      → ((q y : ℕ) → Has (nodes_of z) (right (take n v.past.seen)) v.touch.kept k n q y → (mem q ≡ y) × (y ≢ 0) × (q < nodes_of z + steps_of z))
      → MayPut (nodes_of z) (steps_of z) (path_of z) (long_of z) (right (take n v.past.seen)) v.touch.kept k n p w → MayWrite (nodes_of z) (steps_of z) (path_of z) (long_of z) (right (take n v.past.seen)) mem p w
  may_write v p w mem one bank ok m =
      let R = right (take n v.past.seen) in
      let sound = stands_sound (nodes_of z) (steps_of z) (path_of z) (long_of z) R v.touch.kept k n mem ok bank one in
      record {
        some_word = m.some_word;
        in_bank = m.within;
        on_path = record {
          turn = m.turn;
          within = m.on_path.0;
          here = m.on_path.1;
          before = λ j l. let x = m.before j l in let y = ok (path_of z (key_of w) j) x.0 x.1 in ((λ e. y.1 (sym y.0 ∙ e)), (λ e. x.2 (ap key_of (sym y.0) ∙ e)));
        };
        as_node = λ low. let x = m.as_node low in (x.0, x.1, x.2, x.3, x.4, x.5, x.6, x.7, names_in (sound true x.1 (set_of x.2) x.8));
        as_step = λ high. let x = m.as_step high in record {
          op = x.0;
          a = x.1;
          b = x.2;
          r = x.3;
          first = x.4;
          second = x.5;
          answer = x.6;
          small = (x.7, x.8, x.9);
          word = x.10;
          first_is = sound (first_is_set x.0) x.1 x.4 x.11;
          second_is = sound (second_is_set x.0) x.2 x.5 x.12;
          answer_is = names_in (sound true x.3 (set_of x.6) x.13);
          is_right = x.14;
        };
      }

  pub sound_write : (p word x : ℕ) (v w : View E) → ((op : Op) (a b : Operand) (x y : List ℕ) → right (take n v.past.seen) op a b x → right (take n v.past.seen) op a b y → x ≡ y)
      → MayPut (nodes_of z) (steps_of z) (path_of z) (long_of z) (right (take n v.past.seen)) v.touch.kept k n p word → Written k n p word v x w → Shown right z k n p v x → Sound right z k n w
  sound_write p word x v w one may e s = dite (ℕ_discrete x 0)
      (λ none.
      let mem' : ℕ → ℕ = λ q. cond (eqb q p) word (s.mem q) in
      let here : mem' p ≡ word = ap (λ (t : Bool). cond t word (s.mem p)) (eq-eqb p p refl) in
      let others : (q : ℕ) → q ≢ p → mem' q ≡ s.mem q = λ q no. ap (λ (t : Bool). cond t word (s.mem q)) (ne_eqb q p no) in
      let bank = writes (nodes_of z) (steps_of z) (path_of z) (long_of z) (right (take n v.past.seen)) s.mem mem' p word s.bank (s.here ∙ none) here others (may_write v p word s.mem one s.bank s.agrees may) in
      more_sound v w p word mem' (ap (λ (u : View E). u.past) e) (ap (λ (u : View E). u.touch.kept) e ∙ ap (λ (t : Bool). cond t (found k n p word ∷ v.touch.kept) (found k n p x ∷ v.touch.kept)) (eq-eqb x 0 none)) bank here may.some_word may.within
      (λ q y h. let a = s.agrees q y h in (others q (λ same. a.1 (sym a.0 ∙ (ap s.mem same ∙ (s.here ∙ none)))) ∙ a.0, a.1, a.2)))
      (λ some_word. more_sound v w p x s.mem (ap (λ (u : View E). u.past) e) (ap (λ (u : View E). u.touch.kept) e ∙ ap (λ (t : Bool). cond t (found k n p word ∷ v.touch.kept) (found k n p x ∷ v.touch.kept)) (ne_eqb x 0 some_word)) s.bank s.here some_word may.within s.agrees)

each_map : {A : Type 0} (P Q : A → Type 0) → ((x : A) → P x → Q x) → (xs : List A) → All P xs → All Q xs
each_map P Q f xs h = λ i d l. f _ (h i d l)

module _ {E : Type 0} where
  pub wrote_none : (P : Found → Type 0) (v w : View E) → w.touch.wrote ≡ v.touch.wrote → Wrote P v w
  wrote_none P v w e = record { words = []; since = e; each = All-nil P }

  pub wrote_on : (P Q R : Found → Type 0) (u v w : View E) → ((f : Found) → P f → R f) → ((f : Found) → Q f → R f) → Wrote P u v → Wrote Q v w → Wrote R u w
  wrote_on P Q R u v w f g a b = record {
    words = b.words ++ a.words;
    since = b.since ∙ (ap (λ l. b.words ++ l) a.since ∙ sym (append_assoc b.words a.words u.touch.wrote));
    each = All-append R b.words a.words (each_map Q R g b.words b.each) (each_map P R f a.words a.each);
  }

  pub wrote_look : (P : Found → Type 0) (k n p x : ℕ) (v w : View E) → Looked k n p v x w → Wrote P v w
  wrote_look P k n p x v w e = wrote_none P v w (ap (λ (u : View E). u.touch.wrote) e)

  pub wrote_write : (P : Found → Type 0) (k n p word x : ℕ) (v w : View E) → P (found k n p word) → Written k n p word v x w → Wrote P v w
  wrote_write P k n p word x v w is e = record {
    words = cond (eqb x 0) (found k n p word ∷ []) [];
    since = ap (λ (u : View E). u.touch.wrote) e ∙ elim (eqb x 0) as (λ t. cond t (found k n p word ∷ v.touch.wrote) v.touch.wrote ≡ cond t (found k n p word ∷ []) [] ++ v.touch.wrote) [ true ↦ refl | false ↦ refl ];
    each = elim (eqb x 0) as (λ t. All P (cond t (found k n p word ∷ []) [])) [ true ↦ All-cons P (found k n p word) [] is (All-nil P) | false ↦ All-nil P ];
  }
