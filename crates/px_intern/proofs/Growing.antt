-- Which words may be put where, and what words that were found are.
use Rattle.std.proofs.Common.{◌≡◌, ◌≢◌, ℕ, zero, suc, ◌+◌, ◌*◌, ◌/◌, ◌%◌, ◌<◌, ◌≤◌, Bool, true, false, cond, List, [], ◌∷◌, length, take, refl, sym, ap, ◌∙◌, subst, arith, eq-eqb, ne_eqb, drop, get_or}
use mathlib.Core.Logic.{dite}
use native.Mathlib.Decide.{dec_lt}
use lib.ListN.{get_elem?}
use Rattle.px_text.specs.declared.op.Op.{Op}
use Rattle.px_rule.specs.declared.shape.Shape.{Shape}
use Rattle.px_rule.specs.declared.view.View.{View}
use Rattle.px_rule.specs.declared.view.Stay.{Stay}
use Rattle.px_text.specs.Operands.{Operand, set_of, first_is_set, second_is_set}
use Rattle.px_rule.specs.Kinds.{kind_of}
use Rattle.px_rule.specs.Words.{Small, node_word, step_word, key_of, is_node, IsShape, nodes_of, steps_of, size_of, path_of, long_of}
use Rattle.px_rule.specs.RightBanks.{SetAt, Means}
use Rattle.px_text.specs.Sets.{Above, Rising}
use Rattle.px_rule.specs.Known.{found, KeptSet, named, MayPut}
use Rattle.px_rule.specs.Steps.{Looked, Written, Shown}
use Rattle.px_rule.specs.Table.{is_inside, bank_in, version_in}
use Rattle.px_rule.proofs.Known.{kind_within, same_step, means_one, stands_sound}
use Rattle.px_rule.proofs.Paths.{node_path, step_path}
use Rattle.px_rule.specs.Kept.{Grew, KeptAt, Tells, PassedBy}
use Rattle.px_intern.specs.Proper.{AsNode, AsStep, Proper}
use Rattle.px_rule.proofs.Lasting.{names_in, stands_grew}
use Rattle.px_intern.specs.Answers.{Names}

key_of_fields : (kind a b r : ℕ) → Small a → Small b → Small r → key_of (kind * 1152921504606846976 + a * 1099511627776 + b * 1048576 + r) ≡ kind * 1152921504606846976 + a * 1099511627776 + b * 1048576 + 0
key_of_fields kind a b r sa sb sr = omega arith

pub key_of_step : (op : Op) (a b r : ℕ) → Small a → Small b → Small r → key_of (step_word op a b r) ≡ step_word op a b 0
key_of_step op a b r sa sb sr = key_of_fields (kind_of op) a b r sa sb sr

kind_in_key : (kind a b r : ℕ) → Small a → Small b → Small r → key_of (kind * 1152921504606846976 + a * 1099511627776 + b * 1048576 + r) / 1152921504606846976 ≡ kind
kind_in_key kind a b r sa sb sr = omega arith

pub step_no_node : (op : Op) (a b r : ℕ) → Small a → Small b → Small r → is_node (key_of (step_word op a b r)) ≡ false
step_no_node op a b r sa sb sr = ne_eqb (key_of (step_word op a b r) / 1152921504606846976) 1
    (λ e. let k : ℕ = kind_of op in let big : 1 < k = (kind_within op).0 in let is : k ≡ 1 = sym (kind_in_key (kind_of op) a b r sa sb sr) ∙ e in omega arith)

some_fields : (kind a b r : ℕ) → 1 < kind → kind * 1152921504606846976 + a * 1099511627776 + b * 1048576 + r ≢ 0
some_fields kind a b r big none = omega arith

step_some : (op : Op) (a b r : ℕ) → step_word op a b r ≢ 0
step_some op a b r = some_fields (kind_of op) a b r (kind_within op).0

module _ {E : Type 0} (right : List E → Op → Operand → Operand → List ℕ → Type 0) (z : Shape) where
  pub proper_grew : (k n : ℕ) (v w : View E) (word : ℕ) → Grew v w → Proper right z k n v word → Proper right z k n w word
  proper_grew k n v w word g p = let S = stands_grew right z k n v w g in record {
    some_word = p.some_word;
    as_node = λ i l m. let x = p.as_node i l m in (x.0, x.1, x.2, x.3, x.4, x.5, x.6, x.7, S true x.1 (set_of x.2) x.8);
    as_step = λ i l m. let x = p.as_step i l m in (
      x.0,
      x.1,
      x.2,
      x.3,
      x.4,
      x.5,
      x.6,
      x.7,
      x.8,
      x.9,
      x.10,
      S (first_is_set x.0) x.1 x.4 x.11,
      S (second_is_set x.0) x.2 x.5 x.12,
      S true x.3 (set_of x.6) x.13,
      subst (λ l. right (take n l) x.0 x.4 x.5 x.6) (sym (ap (λ p. p.seen) g.past)) x.14,
    );
  }

  pub may_put : (k n word turn p : ℕ) (v : View E) → Proper right z k n v word → PassedBy z k n word turn v → turn < long_of z (key_of word) → p ≡ path_of z (key_of word) turn → p < size_of z
      → MayPut (nodes_of z) (steps_of z) (path_of z) (long_of z) (right (take n v.past.seen)) v.touch.kept k n p word
  may_put k n word turn p v proper passed low at within = record {
    some_word = proper.some_word;
    within = within;
    turn = turn;
    on_path = (low, sym at);
    before = λ j l. let x = passed j l in (x.0, (x.1.0, x.1.1), x.2);
    as_node = λ m. subst (λ (q : ℕ). AsNode right z k n v q word) (sym at) (proper.as_node turn low (subst (λ (q : ℕ). q < nodes_of z) at m));
    as_step = λ m. proper.as_step turn low (subst (λ (q : ℕ). nodes_of z ≤ q) at m);
  }

  -- at a node place the word found ends in zeros
  pub ends_in_zeros : (k n p x : ℕ) (v : View E) → p < nodes_of z → x ≢ 0 → Shown right z k n p v x → x % 1048576 ≡ 0
  ends_in_zeros k n p x v low some_word s = let y = s.bank.node p low (λ e. some_word (sym s.here ∙ e)) in let w = y.2.5 in let here = s.here in let t = y.2.0 in let e = y.0 in
      let is : x ≡ node_word e t = sym here ∙ w in omega arith

  pub node_at : (word turn p : ℕ) → IsShape z → p ≡ path_of z (key_of word) turn → is_node (key_of word) ≡ true → (0 < p) × (p < nodes_of z)
  node_at word turn p shape at is = subst (λ (q : ℕ). (0 < q) × (q < nodes_of z)) (sym at) (node_path z (key_of word) turn shape is)

  pub own_zeros : (k n word turn : ℕ) (v : View E) → IsShape z → turn < long_of z (key_of word) → Proper right z k n v word → is_node (key_of word) ≡ true → word % 1048576 ≡ 0
  own_zeros k n word turn v shape low p is = let y = p.as_node turn low (node_path z (key_of word) turn shape is).1 in let e = y.6 in let a = y.0 in let t = y.1 in let w : word ≡ node_word a t = e in omega arith

  -- the node word of the next element may be sought
  pub proper_node : (k n e t : ℕ) (es : List ℕ) (v : View E) → IsShape z → Small e → Small t → Above e es → KeptSet (nodes_of z) (right (take n v.past.seen)) v.touch.kept k n t es → Proper right z k n v (node_word e t)
  proper_node k n e t es v shape se st above names =
      let w : ℕ = node_word e t in
      let is : is_node (key_of w) ≡ true = eq-eqb (key_of w / 1152921504606846976) 1 (omega arith) in record {
        some_word = λ z. omega arith;
        as_node = λ i l m. (e, t, es, (node_path z (key_of w) i shape is).0, se, st, refl, above, named t es names);
        as_step = λ i l m. absurd (let q : ℕ = nodes_of z in let p : ℕ = path_of z (key_of w) i in let a : p < q = (node_path z (key_of w) i shape is).1 in let h : q ≤ p = m in omega arith);
      }

  -- a step word of the key has the same result
  pub same_result : (k n p x : ℕ) (v : View E) (word : ℕ) → ((op : Op) (a b : Operand) (x y : List ℕ) → right (take n v.past.seen) op a b x → right (take n v.past.seen) op a b y → x ≡ y)
      → Shown right z k n p v x → x ≢ 0 → nodes_of z ≤ p → p < size_of z → AsStep right z k n v word → key_of x ≡ key_of word → x ≡ word
  same_result k n p x v word one s some_word high within y key =
      let R = right (take n v.past.seen) in
      let N : ℕ = nodes_of z in
      let mem = s.mem in
      let here : mem p ≡ x = s.here in
      let i = s.bank.step p high within (λ e. some_word (sym here ∙ e)) in
      let op = y.0 in let a = y.1 in let b = y.2 in let r = y.3 in
      let sound = stands_sound (nodes_of z) (steps_of z) (path_of z) (long_of z) R v.touch.kept k n mem s.agrees s.bank one in
      let same = same_step (key_of word) i.op i.a i.b 0 op a b 0 i.small.0 i.small.1 (omega arith) y.7 y.8 (omega arith)
      (sym key ∙ (ap key_of (sym here ∙ i.word) ∙ key_of_step i.op i.a i.b i.r i.small.0 i.small.1 i.small.2)) (ap key_of y.10 ∙ key_of_step op a b r y.7 y.8 y.9) in
      let f : Means (nodes_of z) mem (first_is_set op) a i.first = subst (λ (q : Op × ℕ). Means (nodes_of z) mem (first_is_set q.0) q.1 i.first) (λ j. (same.0 j, same.1 j)) i.first_is in
      let g : Means (nodes_of z) mem (second_is_set op) b i.second = subst (λ (q : Op × ℕ). Means (nodes_of z) mem (second_is_set q.0) q.1 i.second) (λ j. (same.0 j, same.2 j)) i.second_is in
      let e = means_one (nodes_of z) mem (first_is_set op) a i.first y.4 f (sound (first_is_set op) a y.4 y.11) in
      let d = means_one (nodes_of z) mem (second_is_set op) b i.second y.5 g (sound (second_is_set op) b y.5 y.12) in
      let answers : R op y.4 y.5 i.answer = subst (λ (q : Op × Operand × Operand). R q.0 q.1 q.2 i.answer) (λ j. (same.0 j, e j, d j)) i.is_right in
      let set : i.answer ≡ y.6 = one op y.4 y.5 i.answer y.6 answers y.14 in
      let names : SetAt (nodes_of z) mem r y.6 = names_in (sound true r (set_of y.6) y.13) in
      let result : i.r ≡ r = s.one_number y.6 i.r r (subst (SetAt (nodes_of z) mem i.r) set i.answer_is) names in
      sym here ∙ (i.word ∙ ((λ j. step_word (same.0 j) (same.1 j) (same.2 j) (result j)) ∙ sym y.10))

  -- at a turn of the path, what was found has the key only if it is the word
  pub found_step : (k n word turn p x : ℕ) (v : View E) → IsShape z → ((op : Op) (a b : Operand) (x y : List ℕ) → right (take n v.past.seen) op a b x → right (take n v.past.seen) op a b y → x ≡ y)
      → turn < long_of z (key_of word) → p ≡ path_of z (key_of word) turn → p < size_of z → is_node (key_of word) ≡ false → Proper right z k n v word → Shown right z k n p v x → x ≢ 0 → key_of x ≡ key_of word → x ≡ word
  found_step k n word turn p x v shape one low at within is proper s some_word key =
      let high : nodes_of z ≤ path_of z (key_of word) turn = (step_path z (key_of word) turn shape is).0 in
      same_result k n p x v word one s some_word (subst (λ (q : ℕ). nodes_of z ≤ q) (sym at) high) within (proper.as_step turn low high) key

  -- the word of a right step may be sought
  pub proper_step : (k n word : ℕ) (v : View E) → IsShape z → AsStep right z k n v word → Proper right z k n v word
  proper_step k n word v shape y =
      let is : is_node (key_of word) ≡ false = ap (λ (w : ℕ). is_node (key_of w)) y.10 ∙ step_no_node y.0 y.1 y.2 y.3 y.7 y.8 y.9 in record {
        some_word = λ none. step_some y.0 y.1 y.2 y.3 (sym y.10 ∙ none);
        as_node = λ i l m. absurd (let p : ℕ = path_of z (key_of word) i in let q : ℕ = nodes_of z in let high : q ≤ p = (step_path z (key_of word) i shape is).0 in let low : p < q = m in omega arith);
        as_step = λ i l m. y;
      }

  -- where the path of a key has a gap before any word of the key, the view keeps no word of the key
  pub absent : (k n word turn p : ℕ) (v : View E) → Shown right z k n p v 0 → p ≡ path_of z (key_of word) turn → PassedBy z k n word turn v → (q x : ℕ) → KeptAt k n q x v → key_of x ≡ key_of word → ⊥
  absent k n word turn p v s at passed q x kept key =
      let mem = s.mem in
      let here = s.agrees q x kept in
      let o = s.bank.path_of q here.2 (λ e. here.1 (sym here.0 ∙ e)) in
      let keys : key_of (mem q) ≡ key_of word = ap key_of here.0 ∙ key in
      let on : path_of z (key_of word) o.turn ≡ q = ap (λ (i : ℕ). path_of z i o.turn) (sym keys) ∙ o.here in
      dite (dec_lt o.turn turn)
      (λ early. let y = passed o.turn early in let there = s.agrees (path_of z (key_of word) o.turn) y.0 y.1 in y.2 (ap key_of (sym there.0 ∙ ap mem on) ∙ keys))
      (λ not. dite (dec_lt turn o.turn)
      (λ late. (o.before turn late).0 (ap (λ (i : ℕ). mem (path_of z i turn)) keys ∙ (ap mem (sym at) ∙ s.here)))
      (λ not'. let e : o.turn ≡ turn = omega arith in here.1 (sym here.0 ∙ (ap mem (sym on ∙ (ap (path_of z (key_of word)) e ∙ sym at)) ∙ s.here))))

  pub kept_back : (k n p x q y : ℕ) (v w : View E) → Looked k n p v x w → x ≡ 0 → KeptAt k n q y w → KeptAt k n q y v
  kept_back k n p x q y v w e none h =
      (h.0, sym (ap (λ (u : View E). get_elem? u.touch.kept h.0) e ∙ ap (λ (t : Bool). get_elem? (cond t v.touch.kept (found k n p x ∷ v.touch.kept)) h.0) (eq-eqb x 0 none)) ∙ h.1)

module _ {E : Type 0} where
  -- a step of a seat that is where it was
  pub looked_at : (u v w : View E) (p x : ℕ) → v.stay ≡ u.stay → Looked (bank_in v.stay.place) (version_in v.stay.place) p v x w → Looked (bank_in u.stay.place) (version_in u.stay.place) p v x w
  looked_at u v w p x e = subst (λ (s : Stay). Looked (bank_in s.place) (version_in s.place) p v x w) e

  pub written_at : (u v w : View E) (p word x : ℕ) → v.stay ≡ u.stay → Written (bank_in v.stay.place) (version_in v.stay.place) p word v x w → Written (bank_in u.stay.place) (version_in u.stay.place) p word v x w
  written_at u v w p word x e = subst (λ (s : Stay). Written (bank_in s.place) (version_in s.place) p word v x w) e

  pub shown_at : (right : List E → Op → Operand → Operand → List ℕ → Type 0) (z : Shape) (u v : View E) (p x : ℕ) → v.stay ≡ u.stay → Shown right z (bank_in v.stay.place) (version_in v.stay.place) p v x → Shown right z (bank_in u.stay.place) (version_in u.stay.place) p v x
  shown_at right z u v p x e = subst (λ (s : Stay). Shown right z (bank_in s.place) (version_in s.place) p v x) e

  pub inside_at : (u v : View E) → v.stay ≡ u.stay → is_inside u.stay.place ≡ true → is_inside v.stay.place ≡ true
  inside_at u v e h = ap (λ (s : Stay). is_inside s.place) e ∙ h

-- words whose upper bits differ have different keys, and those whose upper bits are the same have one
pub apart : (x w : ℕ) → x / 1048576 ≢ w / 1048576 → key_of x ≢ key_of w
apart x w h e = h (omega arith)

pub one_key : (x w : ℕ) → x / 1048576 ≡ w / 1048576 → key_of x ≡ key_of w
one_key x w h = omega arith

whole : (kind a b x r : ℕ) → Small a → Small b → x / 1048576 ≡ (kind * 1152921504606846976 + a * 1099511627776 + b * 1048576 + 0) / 1048576 → r ≡ x % 1048576 → Small r × (x ≡ kind * 1152921504606846976 + a * 1099511627776 + b * 1048576 + r)
whole kind a b x r sa sb h e = (omega arith, omega arith)

-- a word with the upper bits of a step's key is that step's, with a result
pub whole_step : (op : Op) (a b key x r : ℕ) → Small a → Small b → key ≡ step_word op a b 0 → x / 1048576 ≡ key / 1048576 → r ≡ x % 1048576 → Small r × (x ≡ step_word op a b r)
whole_step op a b key x r sa sb is h e = whole (kind_of op) a b x r sa sb (h ∙ ap (λ (w : ℕ). w / 1048576) is) e

by_bool : {A : Type 0} → (t : Bool) → (t ≡ true → A) → (t ≡ false → A) → A
by_bool true f g = f refl
by_bool false f g = g refl

same_zeros : (x w : ℕ) → key_of x ≡ key_of w → x % 1048576 ≡ 0 → w % 1048576 ≡ 0 → x ≡ w
same_zeros x w key a b = omega arith

module _ {E : Type 0} (right : List E → Op → Operand → Operand → List ℕ → Type 0) (z : Shape) where
  -- At a turn of the path, a word that was found has the word's key only where it is the word
  pub found_same : (k n word turn p x : ℕ) (v : View E) → IsShape z → ((op : Op) (a b : Operand) (x y : List ℕ) → right (take n v.past.seen) op a b x → right (take n v.past.seen) op a b y → x ≡ y)
      → turn < long_of z (key_of word) → p ≡ path_of z (key_of word) turn → p < size_of z → Proper right z k n v word → Shown right z k n p v x → x ≢ 0 → key_of x ≡ key_of word → x ≡ word
  found_same k n word turn p x v shape one low at within is shown some_word key = by_bool (is_node (key_of word))
      (λ node. same_zeros x word key (ends_in_zeros right z k n p x v (node_at right z word turn p shape at node).1 some_word shown) (own_zeros right z k n word turn v shape low is node))
      (λ no_node. found_step right z k n word turn p x v shape one low at within no_node is shown some_word key)

-- an element of a rising list
pub rising_at : (xs : List ℕ) (i d : ℕ) → Rising xs → i < length xs → Small (get_or xs i d) × Above (get_or xs i d) (drop (suc i) xs) × (drop i xs ≡ get_or xs i d ∷ drop (suc i) xs)
rising_at [] i d r h = absurd (omega arith)
rising_at (x ∷ xs) zero d r h = (r.0, r.1, refl)
rising_at (x ∷ xs) (suc i) d r h = rising_at xs i d r.2 (omega arith)

module _ {E : Type 0} (right : List E → Op → Operand → Operand → List ℕ → Type 0) (z : Shape) where
  -- a number goes on standing for its set
  pub told_grew : (v w : View E) (s : ℕ) (xs : List ℕ) → Grew v w → Names right z v s xs → Names right z w s xs
  told_grew v w s xs g h =
      subst (λ (q : Stay). Tells right z (bank_in q.place) (version_in q.place) w true s (set_of xs)) (sym g.stay) (stands_grew right z (bank_in v.stay.place) (version_in v.stay.place) v w g true s (set_of xs) h)
