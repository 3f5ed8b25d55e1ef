-- The classes of a text tell which Value states are true of it.
use Rattle.std.proofs.Common.{◌≡◌, ℕ, zero, suc, ◌*◌, ◌^◌, ◌<◌, ◌≤◌, ◌⊎◌, inl, inr, Bool, true, false, not, ◌&&◌, ◌||◌, cond, List, [], ◌∷◌, ◌++◌, length, refl, sym, ◌∙◌, ap, arith, nat_eq, nat_lt, Option, Some, None, option_map}
use Rattle.std.specs.Prelude.{ℤ, pos, negsuc, ◌*ℤ◌, ◌<ℤ◌}
use Rattle.std.specs.List.{list_any}
use Rattle.std.specs.Str.{bytes_eq}
use Rattle.std.specs.Ordering.{nat_cmp, int_cmp, MatchOrdering, ordering_reverse}
use Rattle.std.specs.Cmp.{int_cmp_is, int_ranks}
use Rattle.std.specs.declared.cmp.Ordering.{Ordering}
use Rattle.std.specs.declared.cmp.Ordering.TheVariants.{Less, Equal, Greater}
use Rattle.std.proofs.Math.Nat.{mul-lt-mul_of_pos_right, pow-suc}
use Rattle.std.proofs.lemmas.Int.{ints}
use Rattle.std.proofs.lemmas.Cmp.{int_cmp_total, tied_itself}
use Rattle.std.proofs.lemmas.Bool.{eq-eqb, ne_eqb, lt-ltb, le-ltb, or_left, or_right}
use Rattle.std.proofs.lemmas.List.Folds.{list_any-append}
use Rattle.std.proofs.lemmas.Slice.Eq.{bytes_eq-Decides}
use Rattle.px_text.specs.Sets.{has}
use Rattle.px_text.specs.Numbers.{Number, read, order, decimal_of}
use Rattle.px_xpath.specs.declared.filter.Relation.{Relation}
use Rattle.px_xpath.specs.declared.filter.Relation.TheVariants as relations
use Rattle.px_xpath.specs.declared.filter.Value.{Value}
use Rattle.px_xpath.specs.declared.filter.Value.TheVariants as values
use Rattle.px_xpath.specs.Meaning.{allows, allows_if_number, compares}
use Rattle.px_afa.specs.declared.state.State.{State}
use Rattle.px_afa.specs.declared.state.State.TheVariants as state
use Rattle.px_afa.specs.Truth.{state_at}
use Rattle.px_afa.specs.Sets.{numbers_where}
use Rattle.px_afa.specs.Classes.{state_literal, with_literal, literals_of, class_of_text, text_class, state_constant, with_constant, with_if_some, constants_of, cut_class, class_of_number, number_class, constant_class, text_value_true, class_compares, number_value_true}
use Rattle.px_afa.specs.Functions.{value_text, value_number}
use Rattle.px_afa.specs.Machine.{machine_of, values_of}
use Rattle.px_afa.proofs.Members.{has-add, has-numbers_where}
use Rattle.px_afa.proofs.Found.{state_at-below}
use Rattle.std.proofs.Math.Bool.{or-false}
use Rattle.px_text.proofs.Comparing.{nat_less, nat_greater}

class_low : (i : ℕ) (ls : List (List ℕ)) (t : List ℕ) → (class_of_text i ls t ≡ 0) ⊎ (i ≤ class_of_text i ls t)
class_low i [] t = inl refl
class_low i (x ∷ xs) t = go (bytes_eq x t) (class_low (suc i) xs t)
  where
    go : (b : Bool) → (class_of_text (suc i) xs t ≡ 0) ⊎ (suc i ≤ class_of_text (suc i) xs t) → (cond b i (class_of_text (suc i) xs t) ≡ 0) ⊎ (i ≤ cond b i (class_of_text (suc i) xs t))
    go true r = inr (omega arith)
    go false r = elim r [ inl z ↦ inl z | inr l ↦ inr (omega arith) ]

class_there : (i : ℕ) (ls : List (List ℕ)) (s : List ℕ) → list_any (λ x. bytes_eq x s) ls ≡ true → i ≤ class_of_text i ls s
class_there i [] s h = cc
class_there i (x ∷ xs) s h = go (bytes_eq x s) h (class_there (suc i) xs s)
  where
    go : (b : Bool) → (b || list_any (λ y. bytes_eq y s) xs) ≡ true → (list_any (λ y. bytes_eq y s) xs ≡ true → suc i ≤ class_of_text (suc i) xs s) → i ≤ cond b i (class_of_text (suc i) xs s)
    go true h' ih = omega arith
    go false h' ih = let r = ih h' in omega arith

-- a text's class is a literal's exactly where they are equal
class-text : (i : ℕ) (ls : List (List ℕ)) (s t : List ℕ) → 0 < i → list_any (λ x. bytes_eq x s) ls ≡ true → nat_eq (class_of_text i ls t) (class_of_text i ls s) ≡ bytes_eq t s
class-text i [] s t up h = cc
class-text i (x ∷ xs) s t up h = go (bytes_eq x s) (bytes_eq x t) refl refl h (class-text (suc i) xs s t)
  where
    differ : (bytes_eq t s ≡ true → ⊥) → bytes_eq t s ≡ false
    differ f = by (bytes_eq t s) refl
      where
        by : (b : Bool) → bytes_eq t s ≡ b → bytes_eq t s ≡ false
        by true e = absurd (f e)
        by false e = e

    go : (b c : Bool) → bytes_eq x s ≡ b → bytes_eq x t ≡ c → (b || list_any (λ y. bytes_eq y s) xs) ≡ true →
        (0 < suc i → list_any (λ y. bytes_eq y s) xs ≡ true → nat_eq (class_of_text (suc i) xs t) (class_of_text (suc i) xs s) ≡ bytes_eq t s) →
        nat_eq (cond c i (class_of_text (suc i) xs t)) (cond b i (class_of_text (suc i) xs s)) ≡ bytes_eq t s
    go true true e f h' ih = eq-eqb i i refl ∙ sym ((bytes_eq-Decides t s).1 (sym ((bytes_eq-Decides x t).0 f) ∙ (bytes_eq-Decides x s).0 e))
    go true false e f h' ih =
        ne_eqb (class_of_text (suc i) xs t) i (λ same. elim (class_low (suc i) xs t) [ inl z ↦ omega arith | inr l ↦ omega arith ])
        ∙ sym (differ (λ ts. let u : x ≡ t = (bytes_eq-Decides x s).0 e ∙ sym ((bytes_eq-Decides t s).0 ts) in let w : bytes_eq x t ≡ true = (bytes_eq-Decides x t).1 u in cc))
    go false true e f h' ih =
        let up = class_there (suc i) xs s h' in
        ne_eqb i (class_of_text (suc i) xs s) (λ same. omega arith)
        ∙ sym (differ (λ ts. let u : x ≡ s = (bytes_eq-Decides x t).0 f ∙ (bytes_eq-Decides t s).0 ts in let w : bytes_eq x s ≡ true = (bytes_eq-Decides x s).1 u in cc))
    go false false e f h' ih = ih (omega arith) h'

cmp_equal : (a : ℕ) → nat_cmp a a ≡ Equal
cmp_equal a = let l : nat_lt a a ≡ false = le-ltb a a (omega arith) in let e : nat_eq a a ≡ true = eq-eqb a a refl in rw (l, e) refl

turned : (a b : ℤ) → int_cmp a b ≡ Less → int_cmp b a ≡ Greater
turned a b e = int_cmp_total.antisymm b a ∙ ap ordering_reverse e

turned_back : (a b : ℤ) → int_cmp a b ≡ Greater → int_cmp b a ≡ Less
turned_back a b e = int_cmp_total.antisymm b a ∙ ap ordering_reverse e

pub less_than : (a b : ℤ) → int_cmp a b ≡ Less → a <ℤ b
less_than a b e = told (int_cmp a b) (int_ranks a b) e
  where
    told : (o : Ordering) → MatchOrdering o (a <ℤ b) (a ≡ b) (b <ℤ a) → o ≡ Less → a <ℤ b
    told Less r f = r
    told Equal r f = cc
    told Greater r f = cc

-- how something stands to constants: above the lower of two, or below the higher
abbrev pub IsCut : (ℤ → Ordering) → Type 0
IsCut cut = (c d : ℤ) → int_cmp c d ≡ Less → (cut c ≡ Greater) ⊎ (cut d ≡ Less)

mul_less : (c d : ℤ) (k : ℕ) → 0 < k → c <ℤ d → (c *ℤ pos k) <ℤ (d *ℤ pos k)
mul_less (pos m) (pos n) k h l = let less : m < n = omega (arith, ints) in let p : m * k < n * k = mul-lt-mul_of_pos_right less h in omega (arith, ints)
mul_less (pos m) (negsuc n) k h l = absurd (omega (arith, ints))
mul_less (negsuc m) (pos n) k h l = let p : 0 * k < suc m * k = mul-lt-mul_of_pos_right (omega arith) h in omega (arith, ints)
mul_less (negsuc m) (negsuc n) k h l = let less : suc n < suc m = omega (arith, ints) in let p : suc n * k < suc m * k = mul-lt-mul_of_pos_right less h in omega (arith, ints)

pub int_cut : (a x y : ℤ) → x <ℤ y → (int_cmp a x ≡ Greater) ⊎ (int_cmp a y ≡ Less)
int_cut a x y l = go (int_cmp a x) refl
  where
    above : int_cmp x y ≡ Less
    above = sym (int_cmp_is x y Less l)

    go : (o : Ordering) → int_cmp a x ≡ o → (int_cmp a x ≡ Greater) ⊎ (int_cmp a y ≡ Less)
    go Less e = inr (int_cmp_total.trans a x y e above)
    go Equal e = inr (int_cmp_total.congr a x y e ∙ above)
    go Greater e = inl e

power_positive : (n : ℕ) → 0 < 10 ^ n
power_positive zero = omega arith
power_positive (suc n) = let less = power_positive n in let e : 10 ^ suc n ≡ 10 ^ n * 10 = pow-suc 10 n in omega arith

pub order_cut : (n : Number) → IsCut (λ units. order n (decimal_of units))
order_cut n c d l = int_cut (n.units *ℤ pos (10 ^ 18)) (c *ℤ pos (10 ^ n.places)) (d *ℤ pos (10 ^ n.places)) (mul_less c d (10 ^ n.places) (power_positive n.places) (less_than c d l))

abbrev pub AllAbove : ℤ → List ℤ → Type 0
AllAbove x [] = Unit {0}
AllAbove x (y ∷ ys) = (int_cmp x y ≡ Less) × AllAbove x ys

abbrev pub AreAscending : List ℤ → Type 0
AreAscending [] = Unit {0}
AreAscending (x ∷ xs) = AllAbove x xs × AreAscending xs

abbrev pub IsAmong : List ℤ → ℤ → Type 0
IsAmong [] c = ⊥
IsAmong (x ∷ xs) c = (x ≡ c) ⊎ IsAmong xs c

above-less : (x y : ℤ) (ys : List ℤ) → int_cmp x y ≡ Less → AllAbove y ys → AllAbove x ys
above-less x y [] h a = tt
above-less x y (z ∷ ys) h a = (int_cmp_total.trans x y z h a.0, above-less x y ys h a.1)

above-with : (x c : ℤ) (xs : List ℤ) → int_cmp x c ≡ Less → AllAbove x xs → AllAbove x (with_constant c xs)
above-with x c [] h a = (h, tt)
above-with x c (y ∷ ys) h a = go (int_cmp c y) (above-with x c ys h a.1)
  where
    go : (o : Ordering) → AllAbove x (with_constant c ys) → AllAbove x (elim o [ Less ↦ c ∷ y ∷ ys | Equal ↦ y ∷ ys | Greater ↦ y ∷ with_constant c ys ])
    go Less r = (h, a)
    go Equal r = a
    go Greater r = (a.0, r)

ascending-with : (c : ℤ) (xs : List ℤ) → AreAscending xs → AreAscending (with_constant c xs)
ascending-with c [] r = (tt, tt)
ascending-with c (y ∷ ys) r = go (int_cmp c y) refl (ascending-with c ys r.1)
  where
    go : (o : Ordering) → int_cmp c y ≡ o → AreAscending (with_constant c ys) → AreAscending (elim o [ Less ↦ c ∷ y ∷ ys | Equal ↦ y ∷ ys | Greater ↦ y ∷ with_constant c ys ])
    go Less e ih = ((e, above-less c y ys e r.0), r)
    go Equal e ih = r
    go Greater e ih = (above-with y c ys (turned_back c y e) r.0, ih)

among-new : (c : ℤ) (xs : List ℤ) → IsAmong (with_constant c xs) c
among-new c [] = inl refl
among-new c (y ∷ ys) = go (int_cmp c y) refl (among-new c ys)
  where
    same : (o : Ordering) → MatchOrdering o (c <ℤ y) (c ≡ y) (y <ℤ c) → o ≡ Equal → y ≡ c
    same Less r f = cc
    same Equal r f = sym r
    same Greater r f = cc

    go : (o : Ordering) → int_cmp c y ≡ o → IsAmong (with_constant c ys) c → IsAmong (elim o [ Less ↦ c ∷ y ∷ ys | Equal ↦ y ∷ ys | Greater ↦ y ∷ with_constant c ys ]) c
    go Less e ih = inl refl
    go Equal e ih = inl (same (int_cmp c y) (int_ranks c y) e)
    go Greater e ih = inr ih

among-more : (d : ℤ) (xs : List ℤ) (c : ℤ) → IsAmong xs c → IsAmong (with_constant d xs) c
among-more d [] c h = absurd h
among-more d (y ∷ ys) c h = go (int_cmp d y) h (among-more d ys c)
  where
    go : (o : Ordering) → (y ≡ c) ⊎ IsAmong ys c → (IsAmong ys c → IsAmong (with_constant d ys) c) →
        IsAmong (elim o [ Less ↦ d ∷ y ∷ ys | Equal ↦ y ∷ ys | Greater ↦ y ∷ with_constant d ys ]) c
    go Less h' ih = inr h'
    go Equal h' ih = h'
    go Greater (inl e) ih = inl e
    go Greater (inr r) ih = inr (ih r)

among-above : (x c : ℤ) (xs : List ℤ) → AllAbove x xs → IsAmong xs c → int_cmp x c ≡ Less
among-above x c [] a h = absurd h
among-above x c (y ∷ ys) a (inl e) = ap (int_cmp x) (sym e) ∙ a.0
among-above x c (y ∷ ys) a (inr r) = among-above x c ys a.1 r

cut_class-low : (j : ℕ) (cs : List ℤ) (cut : ℤ → Ordering) → j < cut_class j cs cut
cut_class-low j [] cut = omega arith
cut_class-low j (c ∷ cs) cut = go (cut c) (cut_class-low (suc (suc j)) cs cut)
  where
    go : (o : Ordering) → suc (suc j) < cut_class (suc (suc j)) cs cut → j < elim o [ Less ↦ suc j | Equal ↦ suc (suc j) | Greater ↦ cut_class (suc (suc j)) cs cut ]
    go Less l = omega arith
    go Equal l = omega arith
    go Greater l = omega arith

abbrev chosen : ℕ → ℕ → Ordering → ℕ
chosen j more Less = suc j
chosen j more Equal = suc (suc j)
chosen j more Greater = more

cut_class-is : (j : ℕ) (c : ℤ) (cs : List ℤ) (cut : ℤ → Ordering) → cut_class j (c ∷ cs) cut ≡ chosen j (cut_class (suc (suc j)) cs cut) (cut c)
cut_class-is j c cs cut = go (cut c)
  where
    go : (o : Ordering) → elim o [ Less ↦ suc j | Equal ↦ suc (suc j) | Greater ↦ cut_class (suc (suc j)) cs cut ] ≡ chosen j (cut_class (suc (suc j)) cs cut) o
    go Less = refl
    go Equal = refl
    go Greater = refl

-- a cut stands to a constant as its class does to the constant's
pub class-cut : (j : ℕ) (cs : List ℤ) (cut : ℤ → Ordering) (c : ℤ) → IsCut cut → AreAscending cs → IsAmong cs c →
    nat_cmp (cut_class j cs cut) (cut_class j cs (int_cmp c)) ≡ cut c
class-cut j [] cut c is rising h = absurd h
class-cut j (x ∷ xs) cut c is rising h =
    rw (cut_class-is j x xs cut, cut_class-is j x xs (int_cmp c)) (go h (class-cut (suc (suc j)) xs cut c is rising.1))
  where
    high : suc (suc j) < cut_class (suc (suc j)) xs cut
    high = cut_class-low (suc (suc j)) xs cut

    high' : suc (suc j) < cut_class (suc (suc j)) xs (int_cmp c)
    high' = cut_class-low (suc (suc j)) xs (int_cmp c)

    at_it : (o : Ordering) → nat_cmp (chosen j (cut_class (suc (suc j)) xs cut) o) (suc (suc j)) ≡ o
    at_it Less = nat_less (suc j) (suc (suc j)) (omega arith)
    at_it Equal = cmp_equal (suc (suc j))
    at_it Greater = nat_greater (cut_class (suc (suc j)) xs cut) (suc (suc j)) high

    past : (o : Ordering) → cut x ≡ o → int_cmp x c ≡ Less → nat_cmp (cut_class (suc (suc j)) xs cut) (cut_class (suc (suc j)) xs (int_cmp c)) ≡ cut c →
        nat_cmp (chosen j (cut_class (suc (suc j)) xs cut) o) (cut_class (suc (suc j)) xs (int_cmp c)) ≡ cut c
    past Less e l ih = nat_less (suc j) (cut_class (suc (suc j)) xs (int_cmp c)) (omega (arith, high')) ∙ elim (is x c l) [ inl g ↦ cc | inr less ↦ sym less ]
    past Equal e l ih = nat_less (suc (suc j)) (cut_class (suc (suc j)) xs (int_cmp c)) (omega (arith, high')) ∙ elim (is x c l) [ inl g ↦ cc | inr less ↦ sym less ]
    past Greater e l ih = ih

    go : (x ≡ c) ⊎ IsAmong xs c → (IsAmong xs c → nat_cmp (cut_class (suc (suc j)) xs cut) (cut_class (suc (suc j)) xs (int_cmp c)) ≡ cut c) →
        nat_cmp (chosen j (cut_class (suc (suc j)) xs cut) (cut x)) (chosen j (cut_class (suc (suc j)) xs (int_cmp c)) (int_cmp c x)) ≡ cut c
    go (inl same) ih = rw (same, tied_itself int_cmp_total c) (at_it (cut c))
    go (inr there) ih =
        let l : int_cmp x c ≡ Less = among-above x c xs rising.0 there in rw (turned x c l) (past (cut x) refl l (ih there))

pub constants-ascend : (states : List State) → AreAscending (constants_of states)
constants-ascend [] = tt
constants-ascend (s ∷ before) = go (state_constant s) (constants-ascend before)
  where
    go : (o : Option ℤ) → AreAscending (constants_of before) → AreAscending (with_if_some o (constants_of before))
    go None r = r
    go (Some c) r = ascending-with c (constants_of before) r

pub constants-have : (states : List State) (n : ℕ) (s : State) (c : ℤ) → state_at states n ≡ Some s → state_constant s ≡ Some c → IsAmong (constants_of states) c
constants-have [] n s c at is = cc
constants-have (t ∷ before) n s c at is = go (nat_eq n (length before)) at (constants-have before n s c)
  where
    more : (o : Option ℤ) → IsAmong (constants_of before) c → IsAmong (with_if_some o (constants_of before)) c
    more None h = h
    more (Some d) h = among-more d (constants_of before) c h

    go : (b : Bool) → cond b (Some t) (state_at before n) ≡ Some s → (state_at before n ≡ Some s → state_constant s ≡ Some c → IsAmong (constants_of before) c) →
        IsAmong (constants_of (t ∷ before)) c
    go true at' ih = let e : t ≡ s = cc in rw (e, is) (among-new c (constants_of before))
    go false at' ih = more (state_constant t) (ih at' is)

pub literals-have : (states : List State) (n : ℕ) (s : State) (l : List ℕ) → state_at states n ≡ Some s → state_literal s ≡ Some l → list_any (λ x. bytes_eq x l) (literals_of states) ≡ true
literals-have [] n s l at is = cc
literals-have (t ∷ before) n s l at is = go (nat_eq n (length before)) at (literals-have before n s l)
  where
    in_all : List (List ℕ) → Bool
    in_all ls = list_any (λ x. bytes_eq x l) ls

    more : (o : Option (List ℕ)) → list_any (λ x. bytes_eq x l) (literals_of before) ≡ true → list_any (λ x. bytes_eq x l) (with_literal o (literals_of before)) ≡ true
    more None h = h
    more (Some m) h = by (list_any (λ x. bytes_eq x m) (literals_of before))
      where
        by : (b : Bool) → list_any (λ x. bytes_eq x l) (cond b (literals_of before) (literals_of before ++ m ∷ [])) ≡ true
        by true = h
        by false = list_any-append (λ x. bytes_eq x l) (literals_of before) (m ∷ []) ∙ or_left (list_any (λ x. bytes_eq x l) (literals_of before)) (bytes_eq m l || false) h

    new : list_any (λ x. bytes_eq x l) (with_literal (Some l) (literals_of before)) ≡ true
    new = by (list_any (λ x. bytes_eq x l) (literals_of before)) refl
      where
        by : (b : Bool) → list_any (λ x. bytes_eq x l) (literals_of before) ≡ b → list_any (λ x. bytes_eq x l) (cond b (literals_of before) (literals_of before ++ l ∷ [])) ≡ true
        by true e = e
        by false e =
            list_any-append (λ x. bytes_eq x l) (literals_of before) (l ∷ [])
            ∙ or_right (list_any (λ x. bytes_eq x l) (literals_of before)) (bytes_eq l l || false) (or_left (bytes_eq l l) false ((bytes_eq-Decides l l).1 refl))

    go : (b : Bool) → cond b (Some t) (state_at before n) ≡ Some s → (state_at before n ≡ Some s → state_literal s ≡ Some l → list_any (λ x. bytes_eq x l) (literals_of before) ≡ true) →
        list_any (λ x. bytes_eq x l) (literals_of (t ∷ before)) ≡ true
    go true at' ih = let e : t ≡ s = cc in rw (e, is) new
    go false at' ih = more (state_literal t) (ih at' is)

class_above : (r : Relation) (class at : ℕ) → 0 < class → class_compares r class at ≡ allows r (nat_cmp class at)
class_above relations.Equal zero at h = absurd (omega arith)
class_above relations.NotEqual zero at h = absurd (omega arith)
class_above relations.Less zero at h = absurd (omega arith)
class_above relations.AtMost zero at h = absurd (omega arith)
class_above relations.Greater zero at h = absurd (omega arith)
class_above relations.AtLeast zero at h = absurd (omega arith)
class_above relations.Equal (suc k) at h = refl
class_above relations.NotEqual (suc k) at h = refl
class_above relations.Less (suc k) at h = refl
class_above relations.AtMost (suc k) at h = refl
class_above relations.Greater (suc k) at h = refl
class_above relations.AtLeast (suc k) at h = refl

class_none : (r : Relation) (at : ℕ) → class_compares r 0 at ≡ allows_if_number r None
class_none relations.Equal at = refl
class_none relations.NotEqual at = refl
class_none relations.Less at = refl
class_none relations.AtMost at = refl
class_none relations.Greater at = refl
class_none relations.AtLeast at = refl

allows_some : (r : Relation) (o : Ordering) → allows r o ≡ allows_if_number r (Some o)
allows_some relations.Equal o = refl
allows_some relations.NotEqual o = refl
allows_some relations.Less o = refl
allows_some relations.AtMost o = refl
allows_some relations.Greater o = refl
allows_some relations.AtLeast o = refl

number-told : (cs : List ℤ) (n : Option Number) (r : Relation) (c : ℤ) → AreAscending cs → IsAmong cs c →
    class_compares r (class_of_number cs (option_map (λ m units. order m (decimal_of units)) n)) (cut_class 0 cs (int_cmp c))
    ≡ allows_if_number r (option_map (λ m. order m (decimal_of c)) n)
number-told cs None r c rising h = class_none r (cut_class 0 cs (int_cmp c))
number-told cs (Some m) r c rising h =
    let cut : ℤ → Ordering = λ units. order m (decimal_of units) in
    class_above r (cut_class 0 cs cut) (cut_class 0 cs (int_cmp c)) (cut_class-low 0 cs cut)
    ∙ (ap (allows r) (class-cut 0 cs cut c (order_cut m) rising h) ∙ allows_some r (order m (decimal_of c)))

pub has-values : (states : List State) (n : ℕ) (s : State) → state_at states n ≡ Some s → (text : List ℕ) →
    has (values_of (machine_of states) text) n ≡ (text_value_true states (text_class states text) (Some s) || number_value_true states (number_class states text) (Some s))
has-values states n s at text =
    has-add (value_text states (text_class states text)) (value_number states (number_class states text)) n
    ∙ (ap (λ b. b || has (value_number states (number_class states text)) n) (part (λ o. text_value_true states (text_class states text) o))
    ∙ ap (λ b. text_value_true states (text_class states text) (Some s) || b) (part (λ o. number_value_true states (number_class states text) o)))
  where
    part : (f : Option State → Bool) → has (numbers_where (length states) (λ m. f (state_at states m))) n ≡ f (Some s)
    part f =
        has-numbers_where (length states) (λ m. f (state_at states m)) n
        ∙ (ap (λ b. b && f (state_at states n)) (lt-ltb n (length states) (state_at-below states n s at)) ∙ ap f at)

literal-told : (states : List State) (r : Relation) (l text : List ℕ) → list_any (λ x. bytes_eq x l) (literals_of states) ≡ true →
    (text_value_true states (text_class states text) (Some (state.Value r (values.Literal l))) || false) ≡ compares r (values.Literal l) text
literal-told states relations.Equal l text h = or-false (nat_eq (text_class states text) (text_class states l)) ∙ class-text 1 (literals_of states) l text (omega arith) h
literal-told states relations.NotEqual l text h = or-false (not (nat_eq (text_class states text) (text_class states l))) ∙ ap not (class-text 1 (literals_of states) l text (omega arith) h)
literal-told states relations.Less l text h = refl
literal-told states relations.AtMost l text h = refl
literal-told states relations.Greater l text h = refl
literal-told states relations.AtLeast l text h = refl

pub values-told : (states : List State) (n : ℕ) (r : Relation) (x : Value) → state_at states n ≡ Some (state.Value r x) → (text : List ℕ) → has (values_of (machine_of states) text) n ≡ compares r x text
values-told states n r (values.Literal l) at text =
    has-values states n (state.Value r (values.Literal l)) at text ∙ literal-told states r l text (literals-have states n (state.Value r (values.Literal l)) l at refl)
values-told states n r (values.Number c) at text =
    has-values states n (state.Value r (values.Number c)) at text
    ∙ (no_text r
    ∙ (number-told (constants_of states) (read text) r c (constants-ascend states) (constants-have states n (state.Value r (values.Number c)) c at refl) ∙ is r))
  where
    no_text : (q : Relation) → (text_value_true states (text_class states text) (Some (state.Value q (values.Number c))) || number_value_true states (number_class states text) (Some (state.Value q (values.Number c))))
        ≡ class_compares q (number_class states text) (constant_class states c)
    no_text relations.Equal = refl
    no_text relations.NotEqual = refl
    no_text relations.Less = refl
    no_text relations.AtMost = refl
    no_text relations.Greater = refl
    no_text relations.AtLeast = refl

    is : (q : Relation) → allows_if_number q (option_map (λ m. order m (decimal_of c)) (read text)) ≡ compares q (values.Number c) text
    is relations.Equal = refl
    is relations.NotEqual = refl
    is relations.Less = refl
    is relations.AtMost = refl
    is relations.Greater = refl
    is relations.AtLeast = refl
