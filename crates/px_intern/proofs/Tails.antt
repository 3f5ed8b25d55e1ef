-- A set is read from its number, node by node.
use Rattle.std.proofs.Common.{◌≡◌, ◌≢◌, ℕ, ◌+◌, ◌/◌, ◌%◌, ◌<◌, ◌≤◌, true, List, [], ◌∷◌, length, take, refl, sym, ap, ◌∙◌, subst, arith}
use Rattle.px_text.specs.declared.op.Op.{Op}
use Rattle.px_rule.specs.declared.shape.Shape.{Shape}
use Rattle.px_rule.specs.declared.view.View.{View}
use Rattle.px_text.specs.Operands.{Operand, set_of}
use Rattle.px_rule.specs.Words.{Small, node_word, nodes_of, steps_of, path_of, long_of}
use Rattle.px_rule.specs.RightBanks.{SetAt, RightBank}
use Rattle.px_text.specs.Sets.{Rising}
use Rattle.px_rule.specs.Known.{Agrees}
use Rattle.px_rule.specs.Steps.{Looked, Shown}
use Rattle.px_rule.proofs.Known.{stands_sound}
use Rattle.px_rule.proofs.RightBanks.{one_set}
use Rattle.px_rule.specs.Kept.{Grew, Tells, Sound}
use Rattle.px_rule.proofs.Lasting.{names_in, grew_look, kept_grew, kept_look}

abbrev pub element : ℕ → ℕ
element x = x / 1099511627776 % 1048576

abbrev pub tail : ℕ → ℕ
tail x = x / 1048576 % 1048576

node_fields : (x e t : ℕ) → Small e → Small t → x ≡ node_word e t → (x ≢ 0) × (element x ≡ e) × (tail x ≡ t)
node_fields x e t se st is = ((λ none. omega arith), omega arith, omega arith)

same_tail : (x e t t' : ℕ) → Small t → Small t' → x ≡ node_word e t → x ≡ node_word e t' → t' ≡ t
same_tail x e t t' st st' h h' = omega arith

-- a set has at most 2^20 elements
room : (nodes : ℕ) (mem : ℕ → ℕ) (s e : ℕ) (es : List ℕ) → SetAt nodes mem s (e ∷ es) → e + length (e ∷ es) ≤ 1048576
room nodes mem s e [] h = let small = h.3 in omega arith
room nodes mem s e (f ∷ fs) h = let less = h.6 in let more = room nodes mem h.0 f fs h.7 in omega arith

short : (nodes : ℕ) (mem : ℕ → ℕ) (s : ℕ) (xs : List ℕ) → SetAt nodes mem s xs → length xs ≤ 1048576
short nodes mem s [] h = omega arith
short nodes mem s (e ∷ es) h = let r = room nodes mem s e es h in omega arith

rising_at : (nodes : ℕ) (mem : ℕ → ℕ) (s : ℕ) (xs : List ℕ) → SetAt nodes mem s xs → Rising xs
rising_at nodes mem s [] h = tt
rising_at nodes mem s (e ∷ es) h = (h.3, h.6, rising_at nodes mem h.0 es h.7)

place_of : (nodes : ℕ) (mem : ℕ → ℕ) (s : ℕ) (xs : List ℕ) → s ≢ 0 → SetAt nodes mem s xs → (s < nodes) × (0 < length xs)
place_of nodes mem s [] some_set h = absurd (some_set h)
place_of nodes mem s (e ∷ es) some_set h = (h.2, omega arith)

none_at : (nodes : ℕ) (mem : ℕ → ℕ) (s : ℕ) (xs : List ℕ) → s ≡ 0 → SetAt nodes mem s xs → xs ≡ []
none_at nodes mem s [] none h = refl
none_at nodes mem s (e ∷ es) none h = absurd (let p = h.1 in omega arith)

module _ {E : Type 0} (right : List E → Op → Operand → Operand → List ℕ → Type 0) (z : Shape) (k n : ℕ) where
  -- in each right bank that has what the view keeps, the number names the set
  abbrev pub Named : View E → ℕ → List ℕ → Type 0
  Named v s xs = (mem : ℕ → ℕ) → RightBank (nodes_of z) (steps_of z) (path_of z) (long_of z) (right (take n v.past.seen)) mem → Agrees (nodes_of z) (steps_of z) (path_of z) (long_of z) (right (take n v.past.seen)) v.touch.kept k n mem → SetAt (nodes_of z) mem s xs

  pub told_named : (v : View E) (s : ℕ) (xs : List ℕ) → ((op : Op) (a b : Operand) (x y : List ℕ) → right (take n v.past.seen) op a b x → right (take n v.past.seen) op a b y → x ≡ y) → Tells right z k n v true s (set_of xs) → Named v s xs
  told_named v s xs one h mem bank ok = names_in (stands_sound (nodes_of z) (steps_of z) (path_of z) (long_of z) (right (take n v.past.seen)) v.touch.kept k n mem ok bank one true s (set_of xs) h)

  named_grew : (v w : View E) (s : ℕ) (xs : List ℕ) → Grew v w → Named v s xs → Named w s xs
  named_grew v w s xs g h mem bank ok =
      h mem (subst (λ (l : List E). RightBank (nodes_of z) (steps_of z) (path_of z) (long_of z) (right (take n l)) mem) (ap (λ p. p.seen) g.past) bank)
      (λ p x has. let there = kept_grew k n p x v w g (has.0, has.1) in ok p x (there.0, there.1))

  -- the word at the number's place gives the least element, and the number of the others
  next_of : (v w : View E) (s x : ℕ) (xs : List ℕ) → s ≢ 0 → Named v s xs → Shown right z k n s v x → Looked k n s v x w → (es : List ℕ) × (xs ≡ element x ∷ es) × Named w (tail x) es
  next_of v w s x [] some_set named shown step = absurd (some_set (named shown.mem shown.bank shown.agrees))
  next_of v w s x (e ∷ es) some_set named shown step =
      let a = named shown.mem shown.bank shown.agrees in
      let t = a.0 in
      let is : x ≡ node_word e t = sym shown.here ∙ a.5 in
      let f = node_fields x e t a.3 a.4 is in
      let kept = kept_look k n s x v w step f.0 in (
        es,
        ap (λ (i : ℕ). i ∷ es) (sym f.1),
        λ mem bank ok.
            let b = named_grew v w s (e ∷ es) (grew_look k n s x v w step) named mem bank ok in
            let here : x ≡ node_word e b.0 = sym (ok s x (kept.0, kept.1)).0 ∙ b.5 in
            subst (λ (i : ℕ). SetAt (nodes_of z) mem i es) (same_tail x e t b.0 a.4 b.4 is here ∙ sym f.2) b.7,
      )

  pub next : (v w : View E) (s x : ℕ) (xs : List ℕ) → s ≢ 0 → Named v s xs → Shown right z k n s v x → Looked k n s v x w → (es : List ℕ) × (xs ≡ element x ∷ es) × Named w (tail x) es
  next v w s x xs some_set named shown step = next_of v w s x xs some_set named shown step

  pub place_within : (v : View E) (s : ℕ) (xs : List ℕ) → s ≢ 0 → Sound right z k n v → Named v s xs → (s < nodes_of z) × (0 < length xs)
  place_within v s xs some_set sound named = place_of (nodes_of z) sound.mem s xs some_set (named sound.mem sound.bank sound.agrees)

  pub short_set : (v : View E) (s : ℕ) (xs : List ℕ) → Sound right z k n v → Named v s xs → length xs ≤ 1048576
  short_set v s xs sound named = short (nodes_of z) sound.mem s xs (named sound.mem sound.bank sound.agrees)

  pub none_named : (v : View E) (s : ℕ) (xs : List ℕ) → s ≡ 0 → Sound right z k n v → Named v s xs → xs ≡ []
  none_named v s xs none sound named = none_at (nodes_of z) sound.mem s xs none (named sound.mem sound.bank sound.agrees)

  pub one_named : (v : View E) (s : ℕ) (xs ys : List ℕ) → Sound right z k n v → Named v s xs → Named v s ys → xs ≡ ys
  one_named v s xs ys sound a b = one_set (nodes_of z) sound.mem s xs ys (a sound.mem sound.bank sound.agrees) (b sound.mem sound.bank sound.agrees)

  -- a number names rising elements alone
  pub rising_named : (v : View E) (s : ℕ) (xs : List ℕ) → Sound right z k n v → Named v s xs → Rising xs
  rising_named v s xs sound named = rising_at (nodes_of z) sound.mem s xs (named sound.mem sound.bank sound.agrees)
