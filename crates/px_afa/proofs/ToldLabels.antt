-- The label of a child tells which tests of the states it meets.
use Rattle.std.proofs.Common.{◌≡◌, ℕ, suc, ◌<◌, ◌≤◌, Bool, true, false, ◌||◌, cond, List, [], ◌∷◌, ◌++◌, length, refl, sym, ◌∙◌, ap, arith, nat_eq, Option, Some, None}
use Rattle.std.specs.Str.{bytes_eq}
use Rattle.std.proofs.lemmas.Bool.{eq-eqb, ne_eqb, or_left, or_right}
use Rattle.std.proofs.lemmas.List.Folds.{list_any-append}
use Rattle.std.proofs.lemmas.Slice.Eq.{bytes_eq-Decides}
use Rattle.px_xpath.specs.declared.filter.Test.{Test}
use Rattle.px_xpath.specs.declared.filter.Test.TheVariants as tests
use Rattle.px_afa.specs.declared.state.State.{State}
use Rattle.px_afa.specs.Contents.{Kind, ElementKind, AttributeKind, TextKind}
use Rattle.px_afa.specs.Truth.{state_at, meets, is_element}
use Rattle.px_afa.specs.Labels.{same_kind, tested, state_name, contains_kind, with_name, names_of, place_of, label_number, kind_at, is_element_kind, is_attribute_kind, is_element_label, label_meets}

pub same_kind-is : (a b : Kind) → same_kind a b ≡ true → a ≡ b
same_kind-is (ElementKind n) (ElementKind m) h = ap ElementKind ((bytes_eq-Decides n m).0 h)
same_kind-is (AttributeKind n) (AttributeKind m) h = ap AttributeKind ((bytes_eq-Decides n m).0 h)
same_kind-is TextKind TextKind h = refl
same_kind-is _ _ h = cc

pub same_kind-same : (a : Kind) → same_kind a a ≡ true
same_kind-same (ElementKind n) = (bytes_eq-Decides n n).1 refl
same_kind-same (AttributeKind n) = (bytes_eq-Decides n n).1 refl
same_kind-same TextKind = refl

-- the place of a kind that is there is the kind's own
pub place-there : (other i : ℕ) (xs : List Kind) (k : Kind) → contains_kind xs k ≡ true → (i ≤ place_of other i xs k) × (kind_at i xs (place_of other i xs k) ≡ Some k)
place-there other i [] k h = cc
place-there other i (x ∷ xs) k h = go (same_kind x k) refl h (place-there other (suc i) xs k)
  where
    go : (b : Bool) → same_kind x k ≡ b → (b || contains_kind xs k) ≡ true →
        (contains_kind xs k ≡ true → (suc i ≤ place_of other (suc i) xs k) × (kind_at (suc i) xs (place_of other (suc i) xs k) ≡ Some k)) →
        (i ≤ cond b i (place_of other (suc i) xs k)) × (kind_at i (x ∷ xs) (cond b i (place_of other (suc i) xs k)) ≡ Some k)
    go true e h' ih = let here : nat_eq i i ≡ true = eq-eqb i i refl in (omega arith, rw (here, same_kind-is x k e) refl)
    go false e h' ih =
        let r = ih h' in
        let above : suc i ≤ place_of other (suc i) xs k = r.0 in
        let not_here : nat_eq (place_of other (suc i) xs k) i ≡ false = ne_eqb (place_of other (suc i) xs k) i (λ same. omega arith) in
        (omega arith, rw not_here r.1)

-- and of one that is not there, the other number
pub place-not : (other i : ℕ) (xs : List Kind) (k : Kind) → contains_kind xs k ≡ false → place_of other i xs k ≡ other
place-not other i [] k h = refl
place-not other i (x ∷ xs) k h = go (same_kind x k) h (place-not other (suc i) xs k)
  where
    go : (b : Bool) → (b || contains_kind xs k) ≡ false → (contains_kind xs k ≡ false → place_of other (suc i) xs k ≡ other) → cond b i (place_of other (suc i) xs k) ≡ other
    go true h' ih = cc
    go false h' ih = ih h'

pub kind_at-low : (i : ℕ) (xs : List Kind) (l : ℕ) → l < i → kind_at i xs l ≡ None
kind_at-low i [] l h = refl
kind_at-low i (x ∷ xs) l h = let never : nat_eq l i ≡ false = ne_eqb l i (λ same. omega arith) in rw never (kind_at-low (suc i) xs l (omega arith))

-- how the label of a kind lies
pub data Lies (names : List Kind) (k : Kind) : Type 0 where
  Known : 3 ≤ label_number names k → kind_at 3 names (label_number names k) ≡ Some k → Lies names k
  OtherElement : (n : List ℕ) → k ≡ ElementKind n → label_number names k ≡ 1 → Lies names k
  OtherAttribute : (n : List ℕ) → k ≡ AttributeKind n → label_number names k ≡ 2 → Lies names k
  OfText : k ≡ TextKind → Lies names k

lies : (names : List Kind) (k : Kind) → Lies names k
lies names TextKind = OfText refl
lies names (ElementKind n) = go (contains_kind names (ElementKind n)) refl
  where
    go : (b : Bool) → contains_kind names (ElementKind n) ≡ b → Lies names (ElementKind n)
    go true h = let r = place-there 1 3 names (ElementKind n) h in Known r.0 r.1
    go false h = OtherElement n refl (place-not 1 3 names (ElementKind n) h)
lies names (AttributeKind n) = go (contains_kind names (AttributeKind n)) refl
  where
    go : (b : Bool) → contains_kind names (AttributeKind n) ≡ b → Lies names (AttributeKind n)
    go true h = let r = place-there 2 3 names (AttributeKind n) h in Known r.0 r.1
    go false h = OtherAttribute n refl (place-not 2 3 names (AttributeKind n) h)

-- another kind has another label than a known one
apart : (names : List Kind) (x k : Kind) → 3 ≤ label_number names k → kind_at 3 names (label_number names k) ≡ Some k → (x ≡ k → ⊥) →
    nat_eq (label_number names x) (label_number names k) ≡ false
apart names x k high at differ = ne_eqb (label_number names x) (label_number names k) (λ same. go same (lies names x))
  where
    go : label_number names x ≡ label_number names k → Lies names x → ⊥
    go same (Known high' at') = let e : Some x ≡ Some k = sym at' ∙ (ap (kind_at 3 names) same ∙ at) in differ cc
    go same (OtherElement n is low) = omega arith
    go same (OtherAttribute n is low) = omega arith
    go same (OfText is) = let low : label_number names x ≡ 0 = ap (label_number names) is in omega arith

-- a known name's asked is met by its own label alone
known-name : (names : List Kind) (k x : Kind) (same : Bool) → contains_kind names k ≡ true → (k ≡ TextKind → ⊥) → ((same ≡ true → x ≡ k) × (x ≡ k → same ≡ true)) →
    nat_eq (label_number names x) (label_number names k) ≡ same
known-name names k x true h never d = let e : x ≡ k = d.0 refl in eq-eqb (label_number names x) (label_number names k) (ap (label_number names) e)
known-name names k x false h never d = go (lies names k)
  where
    go : Lies names k → nat_eq (label_number names x) (label_number names k) ≡ false
    go (Known high at) = apart names x k high at (λ e. let bad : false ≡ true = d.1 e in cc)
    go (OtherElement n is low) = let r = place-there 1 3 names (ElementKind n) (rw is at h) in let up : 3 ≤ label_number names (ElementKind n) = r.0 in let low' : label_number names (ElementKind n) ≡ 1 = rw is at low in absurd (omega arith)
    go (OtherAttribute n is low) = let r = place-there 2 3 names (AttributeKind n) (rw is at h) in let up : 3 ≤ label_number names (AttributeKind n) = r.0 in let low' : label_number names (AttributeKind n) ≡ 2 = rw is at low in absurd (omega arith)
    go (OfText is) = absurd (never is)

pub of_element-is : (names : List Kind) (x : Kind) → is_element_label names (label_number names x) ≡ is_element x
of_element-is names x = go x refl (lies names x)
  where
    go : (y : Kind) → x ≡ y → Lies names x → is_element_label names (label_number names x) ≡ is_element y
    go y e (Known high at) =
        let never : nat_eq (label_number names x) 1 ≡ false = ne_eqb (label_number names x) 1 (λ same. omega arith) in
        rw (never, at, e) (by_kind y)
      where
        by_kind : (z : Kind) → (false || is_element_kind (Some z)) ≡ is_element z
        by_kind (ElementKind n) = refl
        by_kind (AttributeKind n) = refl
        by_kind TextKind = refl
    go y e (OtherElement n is low) = rw (low, sym e ∙ is) refl
    go y e (OtherAttribute n is low) = let none = kind_at-low 3 names 2 (omega arith) in rw (low, none, sym e ∙ is) refl
    go y e (OfText is) = let none = kind_at-low 3 names 0 (omega arith) in rw (is, none, sym e ∙ is) refl

of_attribute-is : (names : List Kind) (x : Kind) → (nat_eq (label_number names x) 2 || is_attribute_kind (kind_at 3 names (label_number names x))) ≡ meets tests.AnyAttribute x
of_attribute-is names x = go x refl (lies names x)
  where
    go : (y : Kind) → x ≡ y → Lies names x → (nat_eq (label_number names x) 2 || is_attribute_kind (kind_at 3 names (label_number names x))) ≡ meets tests.AnyAttribute y
    go y e (Known high at) =
        let never : nat_eq (label_number names x) 2 ≡ false = ne_eqb (label_number names x) 2 (λ same. omega arith) in
        rw (never, at, e) (by_kind y)
      where
        by_kind : (z : Kind) → (false || is_attribute_kind (Some z)) ≡ meets tests.AnyAttribute z
        by_kind (ElementKind n) = refl
        by_kind (AttributeKind n) = refl
        by_kind TextKind = refl
    go y e (OtherElement n is low) = let none = kind_at-low 3 names 1 (omega arith) in rw (low, none, sym e ∙ is) refl
    go y e (OtherAttribute n is low) = rw (low, sym e ∙ is) refl
    go y e (OfText is) = let none = kind_at-low 3 names 0 (omega arith) in rw (is, none, sym e ∙ is) refl

contains-more : (o : Option Kind) (names : List Kind) (k : Kind) → contains_kind names k ≡ true → contains_kind (with_name o names) k ≡ true
contains-more None names k h = h
contains-more (Some x) names k h = go (contains_kind names x)
  where
    go : (b : Bool) → contains_kind (cond b names (names ++ x ∷ [])) k ≡ true
    go true = h
    go false = list_any-append (λ y. same_kind y k) names (x ∷ []) ∙ or_left (contains_kind names k) (same_kind x k || false) h

contains-new : (names : List Kind) (k : Kind) → contains_kind (with_name (Some k) names) k ≡ true
contains-new names k = go (contains_kind names k) refl
  where
    go : (b : Bool) → contains_kind names k ≡ b → contains_kind (cond b names (names ++ k ∷ [])) k ≡ true
    go true h = h
    go false h = list_any-append (λ y. same_kind y k) names (k ∷ []) ∙ or_right (contains_kind names k) (same_kind k k || false) (or_left (same_kind k k) false (same_kind-same k))

pub names-have : (states : List State) (n : ℕ) (s : State) (k : Kind) → state_at states n ≡ Some s → state_name s ≡ Some k → contains_kind (names_of states) k ≡ true
names-have [] n s k at is = cc
names-have (t ∷ before) n s k at is = go (nat_eq n (length before)) at (names-have before n s k)
  where
    go : (b : Bool) → cond b (Some t) (state_at before n) ≡ Some s → (state_at before n ≡ Some s → state_name s ≡ Some k → contains_kind (names_of before) k ≡ true) →
        contains_kind (names_of (t ∷ before)) k ≡ true
    go true at' ih = let e : t ≡ s = cc in rw (e, is) (contains-new (names_of before) k)
    go false at' ih = contains-more (state_name t) (names_of before) k (ih at' is)

bytes_same : (n m : List ℕ) → (bytes_eq m n ≡ true → ElementKind m ≡ ElementKind n) × (ElementKind m ≡ ElementKind n → bytes_eq m n ≡ true)
bytes_same n m = (λ h. ap ElementKind ((bytes_eq-Decides m n).0 h), λ e. (bytes_eq-Decides m n).1 cc)

bytes_same_attribute : (n m : List ℕ) → (bytes_eq m n ≡ true → AttributeKind m ≡ AttributeKind n) × (AttributeKind m ≡ AttributeKind n → bytes_eq m n ≡ true)
bytes_same_attribute n m = (λ h. ap AttributeKind ((bytes_eq-Decides m n).0 h), λ e. (bytes_eq-Decides m n).1 cc)

not_text : (names : List Kind) (x : Kind) → (x ≡ TextKind → ⊥) → nat_eq (label_number names x) 0 ≡ false
not_text names x never = ne_eqb (label_number names x) 0 (λ e. go e (lies names x))
  where
    go : label_number names x ≡ 0 → Lies names x → ⊥
    go e (Known high at) = omega arith
    go e (OtherElement n is low) = omega arith
    go e (OtherAttribute n is low) = omega arith
    go e (OfText is) = never is

pub meets-is : (names : List Kind) (asked : Test) → ((k : Kind) → tested asked ≡ Some k → contains_kind names k ≡ true) → (x : Kind) →
    label_meets names (label_number names x) asked ≡ meets asked x
meets-is names (tests.Element n) h (ElementKind m) = known-name names (ElementKind n) (ElementKind m) (bytes_eq m n) (h (ElementKind n) refl) (λ e. cc) (bytes_same n m)
meets-is names (tests.Element n) h (AttributeKind m) = known-name names (ElementKind n) (AttributeKind m) false (h (ElementKind n) refl) (λ e. cc) (λ e. cc, λ e. cc)
meets-is names (tests.Element n) h TextKind = known-name names (ElementKind n) TextKind false (h (ElementKind n) refl) (λ e. cc) (λ e. cc, λ e. cc)
meets-is names (tests.Attribute n) h (AttributeKind m) = known-name names (AttributeKind n) (AttributeKind m) (bytes_eq m n) (h (AttributeKind n) refl) (λ e. cc) (bytes_same_attribute n m)
meets-is names (tests.Attribute n) h (ElementKind m) = known-name names (AttributeKind n) (ElementKind m) false (h (AttributeKind n) refl) (λ e. cc) (λ e. cc, λ e. cc)
meets-is names (tests.Attribute n) h TextKind = known-name names (AttributeKind n) TextKind false (h (AttributeKind n) refl) (λ e. cc) (λ e. cc, λ e. cc)
meets-is names tests.AnyElement h (ElementKind m) = of_element-is names (ElementKind m)
meets-is names tests.AnyElement h (AttributeKind m) = of_element-is names (AttributeKind m)
meets-is names tests.AnyElement h TextKind = of_element-is names TextKind
meets-is names tests.AnyAttribute h x = of_attribute-is names x
meets-is names tests.Text h TextKind = refl
meets-is names tests.Text h (ElementKind m) = not_text names (ElementKind m) (λ e. cc)
meets-is names tests.Text h (AttributeKind m) = not_text names (AttributeKind m) (λ e. cc)
