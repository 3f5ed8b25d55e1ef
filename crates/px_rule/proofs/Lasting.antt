-- What a view keeps, and what it goes on telling when it grows.
use Rattle.std.proofs.Common.{◌≡◌, ◌≢◌, ℕ, suc, ◌+◌, ◌≤◌, Bool, true, false, cond, eqb, List, [], ◌∷◌, ◌++◌, take, refl, sym, ap, ◌∙◌, subst, arith, eq-eqb, ne_eqb}
use Rattle.std.proofs.lemmas.List.{append_assoc}
use mathlib.Core.Logic.{dite}
use mathlib.Core.Option.{some}
use native.Mathlib.Decide.{dec_lt}
use lib.ListN.{get_elem?}
use Rattle.px_text.specs.declared.op.Op.{Op}
use Rattle.px_rule.specs.declared.shape.Shape.{Shape}
use Rattle.px_rule.specs.declared.view.View.{View}
use Rattle.px_rule.specs.declared.view.Found.{Found}
use Rattle.px_text.specs.Operands.{Operand, set_of, first_is_set, second_is_set}
use Rattle.px_rule.specs.Words.{node_word, key_of, nodes_of, path_of, long_of}
use Rattle.px_rule.specs.RightBanks.{SetAt, Means, as_index, as_set}
use Rattle.px_rule.specs.Known.{found, Has, KeptSet, Stands, plain, named, answered}
use Rattle.px_rule.specs.Steps.{Looked, Written}
use Rattle.px_rule.specs.Kept.{Grew, KeptAt, PassedBy, KeyBlocked, SetBlocked}

abbrev set_in : Operand → List ℕ
set_in (set_of x) = x
set_in _ = []

names_at : {nodes : ℕ} {m : ℕ → ℕ} {t : Bool} {s : ℕ} {o : Operand} → t ≡ true → Means nodes m t s o → SetAt nodes m s (set_in o)
names_at e (as_index _) = absurd (cc)
names_at e (as_set _ x h) = h

-- a number that means a set names it
pub names_in : {nodes : ℕ} {m : ℕ → ℕ} {s : ℕ} {x : List ℕ} → Means nodes m true s (set_of x) → SetAt nodes m s x
names_in h = names_at refl h

pub at_more : {A : Type 0} (more xs : List A) (i : ℕ) (a : A) → get_elem? xs i ≡ some a → (j : ℕ) × (get_elem? (more ++ xs) j ≡ some a)
at_more [] xs i a e = (i, e)
at_more (m ∷ ms) xs i a e = let r = at_more ms xs i a e in (suc r.0, r.1)

module _ (nodes : ℕ) (right : Op → Operand → Operand → List ℕ → Type 0) (more kept : List Found) (k n : ℕ) where
  has_more : (p w : ℕ) → Has nodes right kept k n p w → Has nodes right (more ++ kept) k n p w
  has_more p w h = at_more more kept h.0 (found k n p w) h.1

  names_more : (s : ℕ) (x : List ℕ) → KeptSet nodes right kept k n s x → KeptSet nodes right (more ++ kept) k n s x
  names_more s [] h = h
  names_more s (e ∷ es) h = (h.0, h.1, h.2, h.3, h.4, has_more s (node_word e h.0) h.5, h.6, names_more h.0 es h.7)

  pub stands_more : (t : Bool) (a : ℕ) (o : Operand) → Stands nodes right kept k n t a o → Stands nodes right (more ++ kept) k n t a o
  stands_more t a o (plain _) = plain a
  stands_more t a o (named _ x h) = named a x (names_more a x h)
  stands_more t s o (answered p op a b _ first second x fits has is_a is_b is_right) =
      answered p op a b s first second x fits (has_more p _ has) (stands_more (first_is_set op) a first is_a) (stands_more (second_is_set op) b second is_b) is_right

module _ {E : Type 0} where
  pub grew_look : (k n p x : ℕ) (v w : View E) → Looked k n p v x w → Grew v w
  grew_look k n p x v w e = record {
    past = ap (λ (u : View E). u.past) e;
    stay = ap (λ (u : View E). u.stay) e;
    more = cond (eqb x 0) [] (found k n p x ∷ []);
    kept = ap (λ (u : View E). u.touch.kept) e ∙ elim (eqb x 0) as (λ t. cond t v.touch.kept (found k n p x ∷ v.touch.kept) ≡ cond t [] (found k n p x ∷ []) ++ v.touch.kept) [ true ↦ refl | false ↦ refl ];
    touched = (let h : w.touch.touches ≡ v.touch.touches + 1 = ap (λ (u : View E). u.touch.touches) e in let a : ℕ = v.touch.touches in let b : ℕ = w.touch.touches in let h' : b ≡ a + 1 = h in let r : a ≤ b = omega arith in r);
    more_gaps = cond (eqb x 0) (record { bank = k; version = n; place = p; touches = v.touch.touches + 1 } ∷ []) [];
    gaps = ap (λ (u : View E). u.touch.gaps) e
        ∙ elim (eqb x 0) as (λ t. cond t (record { bank = k; version = n; place = p; touches = v.touch.touches + 1 } ∷ v.touch.gaps) v.touch.gaps ≡ cond t (record { bank = k; version = n; place = p; touches = v.touch.touches + 1 } ∷ []) [] ++ v.touch.gaps) [ true ↦ refl | false ↦ refl ];
  }

  pub grew_write : (k n p word x : ℕ) (v w : View E) → Written k n p word v x w → Grew v w
  grew_write k n p word x v w e = record {
    past = ap (λ (u : View E). u.past) e;
    stay = ap (λ (u : View E). u.stay) e;
    more = cond (eqb x 0) (found k n p word ∷ []) (found k n p x ∷ []);
    kept = ap (λ (u : View E). u.touch.kept) e
        ∙ elim (eqb x 0) as (λ t. cond t (found k n p word ∷ v.touch.kept) (found k n p x ∷ v.touch.kept) ≡ cond t (found k n p word ∷ []) (found k n p x ∷ []) ++ v.touch.kept) [ true ↦ refl | false ↦ refl ];
    touched = (let h : w.touch.touches ≡ v.touch.touches + 1 = ap (λ (u : View E). u.touch.touches) e in let a : ℕ = v.touch.touches in let b : ℕ = w.touch.touches in let h' : b ≡ a + 1 = h in let r : a ≤ b = omega arith in r);
    more_gaps = [];
    gaps = ap (λ (u : View E). u.touch.gaps) e;
  }

  pub grew_same : (v : View E) → Grew v v
  grew_same v = record { past = refl; stay = refl; more = []; kept = refl; touched = omega arith; more_gaps = []; gaps = refl }

  pub grew_trans : (u v w : View E) → Grew u v → Grew v w → Grew u w
  grew_trans u v w a b = record {
    past = b.past ∙ a.past;
    stay = b.stay ∙ a.stay;
    more = b.more ++ a.more;
    kept = b.kept ∙ (ap (λ l. b.more ++ l) a.kept ∙ sym (append_assoc b.more a.more u.touch.kept));
    touched = (let p : ℕ = u.touch.touches in let q : ℕ = v.touch.touches in let r : ℕ = w.touch.touches in let l : p ≤ q = a.touched in let m : q ≤ r = b.touched in let x : p ≤ r = omega arith in x);
    more_gaps = b.more_gaps ++ a.more_gaps;
    gaps = b.gaps ∙ (ap (λ l. b.more_gaps ++ l) a.gaps ∙ sym (append_assoc b.more_gaps a.more_gaps u.touch.gaps));
  }

  pub kept_grew : (k n p x : ℕ) (v w : View E) → Grew v w → KeptAt k n p x v → KeptAt k n p x w
  kept_grew k n p x v w g h = let r = at_more g.more v.touch.kept h.0 (found k n p x) h.1 in (r.0, ap (λ l. get_elem? l r.0) g.kept ∙ r.1)

module _ {E : Type 0} where
  pub kept_look : (k n p x : ℕ) (v w : View E) → Looked k n p v x w → x ≢ 0 → KeptAt k n p x w
  kept_look k n p x v w e some_word = (0, ap (λ (u : View E). get_elem? u.touch.kept 0) e ∙ ap (λ (t : Bool). get_elem? (cond t v.touch.kept (found k n p x ∷ v.touch.kept)) 0) (ne_eqb x 0 some_word))

  pub gap_look : (k n p x : ℕ) (v w : View E) → Looked k n p v x w → x ≡ 0 → get_elem? w.touch.gaps 0 ≡ some (record { bank = k; version = n; place = p; touches = w.touch.touches })
  gap_look k n p x v w e none =
      ap (λ (u : View E). get_elem? u.touch.gaps 0) e
      ∙ (ap (λ (t : Bool). get_elem? (cond t (record { bank = k; version = n; place = p; touches = v.touch.touches + 1 } ∷ v.touch.gaps) v.touch.gaps) 0) (eq-eqb x 0 none)
      ∙ ap (λ (u : View E). some (record { bank = k; version = n; place = p; touches = u.touch.touches })) (sym e))

module _ {E : Type 0} where
  pub kept_write : (k n p word x : ℕ) (v w : View E) → Written k n p word v x w → x ≡ 0 → KeptAt k n p word w
  kept_write k n p word x v w e none = (0, ap (λ (u : View E). get_elem? u.touch.kept 0) e ∙ ap (λ (t : Bool). get_elem? (cond t (found k n p word ∷ v.touch.kept) (found k n p x ∷ v.touch.kept)) 0) (eq-eqb x 0 none))

  pub kept_write_other : (k n p word x : ℕ) (v w : View E) → Written k n p word v x w → x ≢ 0 → KeptAt k n p x w
  kept_write_other k n p word x v w e some_word = (0, ap (λ (u : View E). get_elem? u.touch.kept 0) e ∙ ap (λ (t : Bool). get_elem? (cond t (found k n p word ∷ v.touch.kept) (found k n p x ∷ v.touch.kept)) 0) (ne_eqb x 0 some_word))

module _ {E : Type 0} (right : List E → Op → Operand → Operand → List ℕ → Type 0) (z : Shape) where
  pub stands_grew : (k n : ℕ) (v w : View E) → Grew v w → (t : Bool) (a : ℕ) (o : Operand) → Stands (nodes_of z) (right (take n v.past.seen)) v.touch.kept k n t a o → Stands (nodes_of z) (right (take n w.past.seen)) w.touch.kept k n t a o
  stands_grew k n v w g t a o h =
      subst (λ (x : List E × List Found). Stands (nodes_of z) (right (take n x.0)) x.1 k n t a o) (λ i. (sym (ap (λ p. p.seen) g.past) i, sym g.kept i)) (stands_more (nodes_of z) (right (take n v.past.seen)) g.more v.touch.kept k n t a o h)

  pub passed_grew : (k n word turns : ℕ) (v w : View E) → Grew v w → PassedBy z k n word turns v → PassedBy z k n word turns w
  passed_grew k n word turns v w g h j l = let x = h j l in (x.0, kept_grew k n (path_of z (key_of word) j) x.0 v w g x.1, x.2)

  pub passed_more : (k n word turns : ℕ) (v : View E) (x p : ℕ) → PassedBy z k n word turns v → p ≡ path_of z (key_of word) turns → KeptAt k n p x v → key_of x ≢ key_of word → PassedBy z k n word (turns + 1) v
  passed_more k n word turns v x p h at kept other j l = dite (dec_lt j turns) (λ low. h j low)
      (λ high. let e : turns ≡ j = omega arith in (x, subst (λ (q : ℕ). KeptAt k n q x v) (at ∙ ap (path_of z (key_of word)) e) kept, other))

  pub names_grew : (k n s : ℕ) (x : List ℕ) (v w : View E) → Grew v w → KeptSet (nodes_of z) (right (take n v.past.seen)) v.touch.kept k n s x → KeptSet (nodes_of z) (right (take n w.past.seen)) w.touch.kept k n s x
  names_grew k n s x v w g h =
      subst (λ (y : List E × List Found). KeptSet (nodes_of z) (right (take n y.0)) y.1 k n s x) (λ i. (sym (ap (λ p. p.seen) g.past) i, sym g.kept i)) (names_more (nodes_of z) (right (take n v.past.seen)) g.more v.touch.kept k n s x h)

  pub key_grew : (k n word : ℕ) (v w : View E) → Grew v w → KeyBlocked z k n word v → KeyBlocked z k n word w
  key_grew k n word v w g h = passed_grew k n word (long_of z (key_of word)) v w g h

  pub blocked_grew : (k n word : ℕ) (xs : List ℕ) (v w : View E) → Grew v w → SetBlocked right z k n v xs word → SetBlocked right z k n w xs word
  blocked_grew k n word xs v w g h = record {
    front = h.front;
    element = h.element;
    rest = h.rest;
    tail = h.tail;
    suffix = h.suffix;
    small = h.small;
    told = stands_grew k n v w g true h.tail (set_of h.rest) h.told;
    word = h.word;
    blocked = key_grew k n word v w g h.blocked;
  }
