-- What stands in a right bank is not blocked, a number tells one set, and a set has one number.
use Rattle.std.proofs.Common.{◌≡◌, ◌≢◌, ℕ, ◌+◌, ◌<◌, Bool, true, List, [], ◌∷◌, ◌++◌, take, refl, sym, ap, ◌∙◌, subst, arith}
use Rattle.px_text.specs.declared.op.Op.{Op}
use Rattle.px_rule.specs.declared.shape.Shape.{Shape}
use Rattle.px_rule.specs.declared.view.View.{View}
use Rattle.px_text.specs.Operands.{Operand, index, set_of}
use Rattle.px_rule.specs.Words.{node_word, key_of, nodes_of, steps_of, path_of, long_of}
use Rattle.px_rule.specs.RightBanks.{SetAt, Means, as_index, as_set}
use Rattle.px_rule.specs.Kept.{KeptAt, Tells, Sound, KeyBlocked, SetBlocked}
use Rattle.px_rule.proofs.RightBanks.{one_number}
use Rattle.px_rule.proofs.Known.{stands_sound, means_one}
use Rattle.px_rule.proofs.Lasting.{names_in}

abbrev index_in : Operand → ℕ
index_in (index a) = a
index_in _ = 0

abbrev set_in : Operand → List ℕ
set_in (set_of x) = x
set_in _ = []

module _ {E : Type 0} (right : List E → Op → Operand → Operand → List ℕ → Type 0) (z : Shape) (k n : ℕ) (v : View E)
    (one_answer : (op : Op) (a b : Operand) (x y : List ℕ) → right (take n v.past.seen) op a b x → right (take n v.past.seen) op a b y → x ≡ y) (s : Sound right z k n v) where
  means : (t : Bool) (a : ℕ) (o : Operand) → Tells right z k n v t a o → Means (nodes_of z) s.mem t a o
  means = stands_sound (nodes_of z) (steps_of z) (path_of z) (long_of z) (right (take n v.past.seen)) v.touch.kept k n s.mem s.agrees s.bank one_answer

  names : (a : ℕ) (x : List ℕ) → Tells right z k n v true a (set_of x) → SetAt (nodes_of z) s.mem a x
  names a x h = names_in (means true a (set_of x) h)

  one_of : (t : Bool) (a b : ℕ) (o o' : Operand) → o ≡ o' → Means (nodes_of z) s.mem t a o → Means (nodes_of z) s.mem t b o' → a ≡ b
  one_of t a b o o' e (as_index _) (as_index _) = ap index_in e
  one_of t a b o o' e (as_set _ x h) (as_set _ y j) = one_number (nodes_of z) (steps_of z) (path_of z) (long_of z) (right (take n v.past.seen)) s.mem s.bank y a b (subst (SetAt (nodes_of z) s.mem a) (ap set_in e) h) j

  -- an operand has one number, and a number tells one operand
  pub one_name : (t : Bool) (a b : ℕ) (o : Operand) → Tells right z k n v t a o → Tells right z k n v t b o → a ≡ b
  one_name t a b o h j = one_of t a b o o refl (means t a o h) (means t b o j)

  pub one_operand : (t : Bool) (a : ℕ) (o o' : Operand) → Tells right z k n v t a o → Tells right z k n v t a o' → o ≡ o'
  one_operand t a o o' h j = means_one (nodes_of z) s.mem t a o o' (means t a o h) (means t a o' j)

  -- a word that stands on its path has no blocked key
  stands_apart : (p w word : ℕ) → s.mem p ≡ w → w ≢ 0 → p < nodes_of z + steps_of z → key_of w ≡ key_of word → KeyBlocked z k n word v → ⊥
  stands_apart p w word here some_word within key blocked =
      let o = s.bank.path_of p within (λ e. some_word (sym here ∙ e)) in
      let keys : key_of (s.mem p) ≡ key_of word = ap key_of here ∙ key in
      let on : path_of z (key_of word) o.turn ≡ p = ap (λ (i : ℕ). path_of z i o.turn) (sym keys) ∙ o.here in
      let y = blocked o.turn (subst (λ (i : ℕ). o.turn < long_of z i) keys o.within) in
      let there = s.agrees (path_of z (key_of word) o.turn) y.0 (y.1.0, y.1.1) in
      y.2 (ap key_of (sym there.0 ∙ ap s.mem on) ∙ keys)

  pub kept_apart : (p w word : ℕ) → KeptAt k n p w v → key_of w ≡ key_of word → KeyBlocked z k n word v → ⊥
  kept_apart p w word kept key blocked = let there = s.agrees p w (kept.0, kept.1) in stands_apart p w word there.0 there.1 there.2 key blocked

  node_apart : (a e t word : ℕ) (es : List ℕ) → SetAt (nodes_of z) s.mem a (e ∷ es) → Tells right z k n v true t (set_of es) → word ≡ node_word e t → KeyBlocked z k n word v → ⊥
  node_apart a e t word es h told is blocked =
      let same : h.0 ≡ t = one_number (nodes_of z) (steps_of z) (path_of z) (long_of z) (right (take n v.past.seen)) s.mem s.bank es h.0 t h.7 (names t es told) in
      let here : s.mem a ≡ word = h.5 ∙ (ap (node_word e) same ∙ sym is) in
      let low = h.2 in
      stands_apart a word word here (λ x. let i : word ≡ node_word e t = is in omega arith) (let m : ℕ = nodes_of z in let q : ℕ = steps_of z in let l : a < m = low in let r : a < m + q = omega arith in r) refl blocked

  suffix : (front es : List ℕ) (a : ℕ) → SetAt (nodes_of z) s.mem a (front ++ es) → (b : ℕ) × SetAt (nodes_of z) s.mem b es
  suffix [] es a h = (a, h)
  suffix (e ∷ front) es a h = suffix front es h.0 h.7

  -- a set that has a number is not blocked
  pub set_apart : (a word : ℕ) (x : List ℕ) → Tells right z k n v true a (set_of x) → SetBlocked right z k n v x word → ⊥
  set_apart a word x h b =
      let i = suffix b.front (b.element ∷ b.rest) a (subst (SetAt (nodes_of z) s.mem a) b.suffix (names a x h)) in
      node_apart i.0 b.element b.tail word b.rest i.1 b.told b.word b.blocked
