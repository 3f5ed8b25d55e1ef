-- What a view tells of a bank is so.
use Rattle.std.proofs.Common.{◌≡◌, ◌≢◌, ℕ, ◌+◌, ◌*◌, ◌<◌, Bool, cond, eqb, List, [], ◌∷◌, refl, sym, ap, ◌∙◌, subst, arith}
use mathlib.Core.Logic.{dite}
use native.Mathlib.Decide.{dec_lt}
use Rattle.px_text.specs.declared.op.Op.{Op}
use Rattle.px_text.specs.declared.op.Op.TheVariants.{TextClass, NumberClass, Pop, Add, Push, Mask}
use Rattle.px_rule.specs.declared.view.Found.{Found}
use Rattle.px_text.specs.Operands.{Operand, set_of, first_is_set, second_is_set}
use Rattle.px_rule.specs.Kinds.{kind_of}
use Rattle.px_rule.specs.Words.{node_word, step_word, Small}
use Rattle.px_rule.specs.RightBanks.{SetAt, Means, as_index, as_set, RightBank}
use Rattle.px_rule.specs.Known.{Agrees, named, KeptSet, Stands, plain, answered}
use Rattle.px_rule.proofs.RightBanks.{one_set}

-- the operation of a kind, and TextClass for another number
op_of : ℕ → Op
op_of n = cond (eqb n 3) NumberClass (cond (eqb n 4) Pop (cond (eqb n 5) Add (cond (eqb n 6) Push (cond (eqb n 7) Mask TextClass))))

op_of_kind : (op : Op) → op_of (kind_of op) ≡ op
unfolding op_of
op_of_kind TextClass = refl
op_of_kind NumberClass = refl
op_of_kind Pop = refl
op_of_kind Add = refl
op_of_kind Push = refl
op_of_kind Mask = refl

kind_one : (x y : Op) → kind_of x ≡ kind_of y → x ≡ y
kind_one x y e = sym (op_of_kind x) ∙ (ap op_of e ∙ op_of_kind y)

pub kind_within : (op : Op) → (1 < kind_of op) × (kind_of op < 8)
kind_within TextClass = (omega arith, omega arith)
kind_within NumberClass = (omega arith, omega arith)
kind_within Pop = (omega arith, omega arith)
kind_within Add = (omega arith, omega arith)
kind_within Push = (omega arith, omega arith)
kind_within Mask = (omega arith, omega arith)

abbrev fields : ℕ → ℕ → ℕ → ℕ → ℕ
fields kind a b r = kind * 1152921504606846976 + a * 1099511627776 + b * 1048576 + r

same_fields : (w kind a b r kind' a' b' r' : ℕ) → Small a → Small b → Small r → Small a' → Small b' → Small r' → w ≡ fields kind a b r → w ≡ fields kind' a' b' r'
    → (kind ≡ kind') × (a ≡ a') × (b ≡ b') × (r ≡ r')
same_fields w kind a b r kind' a' b' r' sa sb sr sa' sb' sr' h h' = (omega arith, omega arith, omega arith, omega arith)

-- a word tells its operation and its fields
pub same_step : (w : ℕ) (op : Op) (a b r : ℕ) (op' : Op) (a' b' r' : ℕ) → Small a → Small b → Small r → Small a' → Small b' → Small r' → w ≡ step_word op a b r → w ≡ step_word op' a' b' r'
    → (op ≡ op') × (a ≡ a') × (b ≡ b') × (r ≡ r')
same_step w op a b r op' a' b' r' sa sb sr sa' sb' sr' h h' =
    let e = same_fields w (kind_of op) a b r (kind_of op') a' b' r' sa sb sr sa' sb' sr' h h' in (kind_one op op' e.0, e.1, e.2, e.3)

far : (w kind a b r e t : ℕ) → 1 < kind → Small a → Small b → Small r → Small e → Small t → w ≡ fields kind a b r → w ≡ node_word e t → ⊥
far w kind a b r e t big sa sb sr se st h h' = omega arith

-- the word of a step is not the word of a node
pub no_node : (w : ℕ) (op : Op) (a b r e t : ℕ) → Small a → Small b → Small r → Small e → Small t → w ≡ step_word op a b r → w ≡ node_word e t → ⊥
no_node w op a b r e t sa sb sr se st h h' = far w (kind_of op) a b r e t (kind_within op).0 sa sb sr se st h h'

pub means_one : (nodes : ℕ) (mem : ℕ → ℕ) (t : Bool) (a : ℕ) (o o' : Operand) → Means nodes mem t a o → Means nodes mem t a o' → o ≡ o'
means_one nodes mem t a o o' (as_index _) (as_index _) = refl
means_one nodes mem t a o o' (as_set _ x h) (as_set _ y h') = ap set_of (one_set nodes mem a x y h h')

module _ (nodes steps : ℕ) (path : ℕ → ℕ → ℕ) (long : ℕ → ℕ) (right : Op → Operand → Operand → List ℕ → Type 0) (kept : List Found) (k n : ℕ) (mem : ℕ → ℕ) where
  kept_set : Agrees nodes steps path long right kept k n mem → (s : ℕ) (x : List ℕ) → KeptSet nodes right kept k n s x → SetAt nodes mem s x
  kept_set ok s [] h = h
  kept_set ok s (e ∷ es) h = (h.0, h.1, h.2, h.3, h.4, (ok s (node_word e h.0) h.5).0, h.6, kept_set ok h.0 es h.7)

  -- A number that stands for a set in the view names it in the bank
  pub stands_sound : Agrees nodes steps path long right kept k n mem → RightBank nodes steps path long right mem → ((op : Op) (a b : Operand) (x y : List ℕ) → right op a b x → right op a b y → x ≡ y)
      → (t : Bool) (a : ℕ) (o : Operand) → Stands nodes right kept k n t a o → Means nodes mem t a o
  stands_sound ok bank one t a o (plain _) = as_index a
  stands_sound ok bank one t a o (named _ x h) = as_set a x (kept_set ok a x h)
  stands_sound ok bank one t s o (answered p op a b _ first second x fits has is_a is_b is_right) =
      let m_a = stands_sound ok bank one (first_is_set op) a first is_a in
      let m_b = stands_sound ok bank one (second_is_set op) b second is_b in
      let here = ok p (step_word op a b s) has in
      let there : mem p ≢ 0 = λ z. here.1 (sym here.0 ∙ z) in
      dite (dec_lt p nodes)
      (λ low. let y = bank.node p low there in absurd (no_node (mem p) op a b s y.0 y.2.0 fits.0 fits.1 fits.2 y.2.3 y.2.4 here.0 y.2.5))
      (λ high. let i = bank.step p (omega arith) here.2 there in
      let same = same_step (mem p) i.op i.a i.b i.r op a b s i.small.0 i.small.1 i.small.2 fits.0 fits.1 fits.2 i.word here.0 in
      let f : Means nodes mem (first_is_set op) a i.first = subst (λ (q : Op × ℕ). Means nodes mem (first_is_set q.0) q.1 i.first) (λ j. (same.0 j, same.1 j)) i.first_is in
      let g : Means nodes mem (second_is_set op) b i.second = subst (λ (q : Op × ℕ). Means nodes mem (second_is_set q.0) q.1 i.second) (λ j. (same.0 j, same.2 j)) i.second_is in
      let e = means_one nodes mem (first_is_set op) a i.first first f m_a in
      let d = means_one nodes mem (second_is_set op) b i.second second g m_b in
      let answers : right op first second i.answer = subst (λ (q : Op × Operand × Operand). right q.0 q.1 q.2 i.answer) (λ j. (same.0 j, e j, d j)) i.is_right in
      as_set s x (subst (λ (q : ℕ × List ℕ). SetAt nodes mem q.0 q.1) (λ j. (same.3 j, one op first second i.answer x answers is_right j)) i.answer_is))
