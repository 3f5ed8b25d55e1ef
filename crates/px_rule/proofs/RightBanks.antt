-- One number: in a right bank a set has one number and a number names one set, and a write keeps the bank right.
use Rattle.std.proofs.Common.{◌≡◌, ◌≢◌, ℕ, ◌+◌, ◌<◌, ◌≤◌, Bool, List, [], ◌∷◌, refl, sym, ap, ◌∙◌, subst, arith}
use mathlib.Core.Logic.{dite}
use native.Mathlib.Decide.{ℕ_discrete, dec_lt}
use Rattle.px_text.specs.declared.op.Op.{Op}
use Rattle.px_text.specs.Operands.{Operand, first_is_set, second_is_set}
use Rattle.px_rule.specs.Words.{node_word, key_of, Small}
use Rattle.px_text.specs.Sets.{Above}
use Rattle.px_rule.specs.RightBanks.{Grown, OneNumber, OneSet, SetAt, Means, as_index, as_set, IsStep, OnPath, RightBank}

node_some : (w e t : ℕ) → w ≡ node_word e t → w ≢ 0
node_some w e t h z = omega arith

same_node : (w e t e' t' : ℕ) → Small e → Small t → Small e' → Small t' → w ≡ node_word e t → w ≡ node_word e' t' → (e ≡ e') × (t ≡ t')
same_node w e t e' t' a b c d h h' = (omega arith, omega arith)

module _ (nodes : ℕ) where
  pub set_grow : (mem mem' : ℕ → ℕ) → Grown mem mem' → (s : ℕ) (x : List ℕ) → SetAt nodes mem s x → SetAt nodes mem' s x
  set_grow mem mem' g s [] h = h
  set_grow mem mem' g s (e ∷ es) h = (h.0, h.1, h.2, h.3, h.4, g s (node_some (mem s) e h.0 h.5) ∙ h.5, h.6, set_grow mem mem' g h.0 es h.7)

  -- in any bank a number names one set
  pub one_set : (mem : ℕ → ℕ) → OneSet nodes mem
  one_set mem s [] [] h k = refl
  one_set mem s [] (e ∷ es) h k = absurd (let p = k.1 in omega arith)
  one_set mem s (e ∷ es) [] h k = absurd (let p = h.1 in omega arith)
  one_set mem s (e ∷ es) (d ∷ ds) h k =
      let t = same_node (mem s) e h.0 d k.0 h.3 h.4 k.3 k.4 h.5 k.5 in
      let r = one_set mem h.0 es ds h.7 (subst (λ (i : ℕ). SetAt nodes mem i ds) (sym t.1) k.7) in
      (λ i. t.0 i ∷ r i)

  pub means_grow : (mem mem' : ℕ → ℕ) → Grown mem mem' → (t : Bool) (a : ℕ) (o : Operand) → Means nodes mem t a o → Means nodes mem' t a o
  means_grow mem mem' g t a o (as_index _) = as_index a
  means_grow mem mem' g t a o (as_set _ x h) = as_set a x (set_grow mem mem' g a x h)

module _ (nodes steps : ℕ) (path : ℕ → ℕ → ℕ) (long : ℕ → ℕ) (right : Op → Operand → Operand → List ℕ → Type 0) where
  -- a word of one key stands at one place
  pub one_place : (mem : ℕ → ℕ) (v w p q : ℕ) → mem p ≡ v → mem q ≡ w → key_of v ≡ key_of w → OnPath nodes steps path long right mem v p → OnPath nodes steps path long right mem w q → p ≡ q
  one_place mem v w p q at_p at_q same a b = dite (dec_lt a.turn b.turn)
      (λ less. absurd ((b.before a.turn less).1 (ap (λ (i : ℕ). key_of (mem i)) (ap (λ (k : ℕ). path k a.turn) (sym same) ∙ a.here) ∙ (ap key_of at_p ∙ same))))
      (λ no. dite (dec_lt b.turn a.turn)
      (λ more. absurd ((a.before b.turn more).1 (ap (λ (i : ℕ). key_of (mem i)) (ap (λ (k : ℕ). path k b.turn) same ∙ b.here) ∙ (ap key_of at_q ∙ sym same))))
      (λ no'. let e : a.turn ≡ b.turn = omega arith in sym a.here ∙ ((λ i. path (same i) (e i)) ∙ b.here)))

  -- in a right bank a set has one number
  pub one_number : (mem : ℕ → ℕ) → RightBank nodes steps path long right mem → OneNumber nodes mem
  one_number mem b [] s t h k = h ∙ sym k
  one_number mem b (e ∷ es) s t h k =
      let tails = one_number mem b es h.0 k.0 h.7 k.7 in
      let same : mem s ≡ mem t = h.5 ∙ (ap (node_word e) tails ∙ sym k.5) in
      let in_s = h.2 in let in_t = k.2 in
      one_place mem (mem s) (mem t) s t refl refl (ap key_of same) (b.path_of s (omega arith) (node_some (mem s) e h.0 h.5)) (b.path_of t (omega arith) (node_some (mem t) e k.0 k.5))

  step_grow : (mem mem' : ℕ → ℕ) → Grown mem mem' → (w : ℕ) → IsStep nodes steps path long right mem w → IsStep nodes steps path long right mem' w
  step_grow mem mem' g w s = record {
    op = s.op;
    a = s.a;
    b = s.b;
    r = s.r;
    first = s.first;
    second = s.second;
    answer = s.answer;
    small = s.small;
    word = s.word;
    first_is = means_grow nodes mem mem' g (first_is_set s.op) s.a s.first s.first_is;
    second_is = means_grow nodes mem mem' g (second_is_set s.op) s.b s.second s.second_is;
    answer_is = set_grow nodes mem mem' g s.r s.answer s.answer_is;
    is_right = s.is_right;
  }

  path_grow : (mem mem' : ℕ → ℕ) → Grown mem mem' → (w p : ℕ) → OnPath nodes steps path long right mem w p → OnPath nodes steps path long right mem' w p
  path_grow mem mem' g w p o = record {
    turn = o.turn;
    within = o.within;
    here = o.here;
    before = λ j l. let x = o.before j l in let e = g (path (key_of w) j) x.0 in ((λ z. x.0 (sym e ∙ z)), (λ z. x.1 (ap key_of (sym e) ∙ z)));
  }

  -- the new word may be written at p
  pub record MayWrite (mem : ℕ → ℕ) (p w : ℕ) : Type 0 where
    pub some_word : w ≢ 0
    pub in_bank : p < nodes + steps
    pub on_path : OnPath nodes steps path long right mem w p
    pub as_node : p < nodes → (e : ℕ) × (t : ℕ) × (es : List ℕ) × (0 < p) × Small e × Small t × (w ≡ node_word e t) × Above e es × SetAt nodes mem t es
    pub as_step : nodes ≤ p → IsStep nodes steps path long right mem w

  -- A write keeps the bank right
  pub writes : (mem mem' : ℕ → ℕ) (p w : ℕ) → RightBank nodes steps path long right mem → mem p ≡ 0 → mem' p ≡ w → ((q : ℕ) → q ≢ p → mem' q ≡ mem q) → MayWrite mem p w
      → RightBank nodes steps path long right mem'
  writes mem mem' p w b empty here others may =
      let g : Grown mem mem' = λ q some_word. others q (λ e. some_word (ap mem e ∙ empty)) in
      record {
        node = λ q low some_word. dite (ℕ_discrete q p)
            (λ yes. let n = may.as_node (subst (λ (i : ℕ). i < nodes) yes low) in
            (n.0, n.2, (n.1, subst (λ (i : ℕ). 0 < i) (sym yes) n.3, low, n.4, n.5, ap mem' yes ∙ (here ∙ n.6), n.7, set_grow nodes mem mem' g n.1 n.2 n.8)))
            (λ no. let old : mem q ≢ 0 = λ z. some_word (others q no ∙ z) in let n = b.node q low old in (n.0, n.1, set_grow nodes mem mem' g q (n.0 ∷ n.1) n.2));
        step = λ q high within some_word. dite (ℕ_discrete q p)
            (λ yes. subst (IsStep nodes steps path long right mem') (sym (ap mem' yes ∙ here)) (step_grow mem mem' g w (may.as_step (subst (λ (i : ℕ). nodes ≤ i) yes high))))
            (λ no. let old : mem q ≢ 0 = λ z. some_word (others q no ∙ z) in
            subst (IsStep nodes steps path long right mem') (sym (others q no)) (step_grow mem mem' g (mem q) (b.step q high within old)));
        path_of = λ q within some_word. dite (ℕ_discrete q p)
            (λ yes. subst (λ (x : ℕ × ℕ). OnPath nodes steps path long right mem' x.0 x.1) (λ i. (sym (ap mem' yes ∙ here) i, sym yes i)) (path_grow mem mem' g w p may.on_path))
            (λ no. let old : mem q ≢ 0 = λ z. some_word (others q no ∙ z) in
            subst (λ (x : ℕ). OnPath nodes steps path long right mem' x q) (sym (others q no)) (path_grow mem mem' g (mem q) q (b.path_of q within old)));
      }

  -- a bank of zeros is right
  pub empty_right : (mem : ℕ → ℕ) → ((p : ℕ) → p < nodes + steps → mem p ≡ 0) → RightBank nodes steps path long right mem
  empty_right mem z = record {
    node = λ p low some_word. absurd (some_word (z p (omega arith)));
    step = λ p high within some_word. absurd (some_word (z p within));
    path_of = λ p within some_word. absurd (some_word (z p within));
  }
