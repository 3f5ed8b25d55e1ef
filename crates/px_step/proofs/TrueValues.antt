-- The Value states that are true of a class, by the tables.
use Rattle.std.proofs.Common.{◌≡◌, ℕ, ◌≤◌, Bool, true, false, not, ◌||◌, ◌&&◌, List, [], length, filter, refl, sym, ◌∙◌, ap, arith, nat_eq, nat_lt, Option, Some, None}
use Rattle.std.proofs.lemmas.Bool.{lt-ltb}
use Rattle.px_xpath.specs.declared.filter.Relation.{Relation}
use Rattle.px_xpath.specs.declared.filter.Relation.TheVariants as relation
use Rattle.px_xpath.specs.declared.filter.Value.TheVariants.{Number, Literal}
use Rattle.px_text.specs.Sets.{has, Rising}
use Rattle.px_text.proofs.RisingLists.{rising_same}
use Rattle.px_afa.specs.declared.state.State.{State}
use Rattle.px_afa.specs.declared.state.State.TheVariants as state
use Rattle.px_afa.specs.Truth.{state_at}
use Rattle.px_afa.specs.Sets.{add}
use Rattle.px_afa.specs.Sound.{AreRising}
use Rattle.px_afa.specs.Classes.{text_value_true, number_value_true, class_compares}
use Rattle.px_afa.specs.Functions.{value_text, value_number}
use Rattle.px_afa.specs.Tables.{relates_text, equal_texts, is_unequal_text, unequal_texts, relates_number, own_class}
use Rattle.px_afa.proofs.Members.{has-add, has-filter, has-numbers_where}
use Rattle.px_afa.proofs.Found.{state_at-below}
use Rattle.px_step.proofs.RisingNumbers.{IsSet, states-are, numbers-rise, rising_filter}
use Rattle.px_step.proofs.Unions.{rising_add}
use Rattle.px_step.proofs.Bools.{or_joined}
use Rattle.std.proofs.Math.Bool.{or-false}

pub equal-rises : (states : List State) (class : ℕ) → length states ≤ 500000 → Rising (equal_texts states class)
equal-rises states class few = numbers-rise (length states) (λ n. relates_text states relation.Equal class (state_at states n)) (omega arith)

pub others-rise : (states : List State) (p : ℕ → Bool) → length states ≤ 500000 → Rising (filter p (unequal_texts states))
others-rise states p few = rising_filter p (unequal_texts states) (numbers-rise (length states) (λ n. is_unequal_text (state_at states n)) (omega arith))

-- `!=` of a literal of another class
abbrev pub is_other : List State → (class : ℕ) → ℕ → Bool
is_other states class n = not (nat_eq class (own_class states (state_at states n)))

text-at : (states : List State) (class n : ℕ) →
    ((nat_lt n (length states) && relates_text states relation.Equal class (state_at states n)) || ((nat_lt n (length states) && is_unequal_text (state_at states n)) && is_other states class n))
    ≡ (nat_lt n (length states) && text_value_true states class (state_at states n))
text-at states class n = go (nat_lt n (length states)) (state_at states n)
  where
    go : (there : Bool) (o : Option State) →
        ((there && relates_text states relation.Equal class o) || ((there && is_unequal_text o) && not (nat_eq class (own_class states o)))) ≡ (there && text_value_true states class o)
    go false o = refl
    go true None = refl
    go true (Some (state.Path axis asked b)) = refl
    go true (Some (state.And ps)) = refl
    go true (Some (state.Or ps)) = refl
    go true (Some (state.Not m)) = refl
    go true (Some (state.Value relation.Equal (Number units))) = refl
    go true (Some (state.Value relation.NotEqual (Number units))) = refl
    go true (Some (state.Value relation.Less (Number units))) = refl
    go true (Some (state.Value relation.AtMost (Number units))) = refl
    go true (Some (state.Value relation.Greater (Number units))) = refl
    go true (Some (state.Value relation.AtLeast (Number units))) = refl
    go true (Some (state.Value relation.Equal (Literal text))) = or-false _
    go true (Some (state.Value relation.NotEqual (Literal text))) = refl
    go true (Some (state.Value relation.Less (Literal text))) = refl
    go true (Some (state.Value relation.AtMost (Literal text))) = refl
    go true (Some (state.Value relation.Greater (Literal text))) = refl
    go true (Some (state.Value relation.AtLeast (Literal text))) = refl

text-is : (states : List State) (class : ℕ) → length states ≤ 500000 → add (equal_texts states class) (filter (is_other states class) (unequal_texts states)) ≡ value_text states class
text-is states class few =
    rising_same _ _
    (rising_add (equal_texts states class) (filter (is_other states class) (unequal_texts states)) (equal-rises states class few) (others-rise states (is_other states class) few))
    (numbers-rise (length states) (λ n. text_value_true states class (state_at states n)) (omega arith))
    (λ n.
    has-add (equal_texts states class) (filter (is_other states class) (unequal_texts states)) n
    ∙ (or_joined
    (has-numbers_where (length states) (λ m. relates_text states relation.Equal class (state_at states m)) n)
    (has-filter (is_other states class) (unequal_texts states) n ∙ ap (λ b. b && is_other states class n) (has-numbers_where (length states) (λ m. is_unequal_text (state_at states m)) n))
    ∙ (text-at states class n
    ∙ sym (has-numbers_where (length states) (λ m. text_value_true states class (state_at states m)) n))))

-- the union of the two lists, as it was made
pub text-set : (states : List State) (class : ℕ) (equal others list out : List ℕ) → length states ≤ 500000 → equal ≡ equal_texts states class → others ≡ filter (is_other states class) (unequal_texts states) →
    list ≡ others → out ≡ add equal list → IsSet (value_text states class) out
text-set states class equal others list out few ee eo el eu = record { rising = rw all up; is = all }
  where
    all : out ≡ value_text states class
    all = eu ∙ (ap (λ z. add z list) ee ∙ (ap (λ z. add (equal_texts states class) z) (el ∙ eo) ∙ text-is states class few))

    up : Rising (value_text states class)
    up = numbers-rise (length states) (λ n. text_value_true states class (state_at states n)) (omega arith)

-- a Value state with this relation to a number is true of the class
abbrev pub is_true_by : List State → (class : ℕ) → Relation → Option State → Bool
is_true_by states class r o = relates_number r o && class_compares r class (own_class states o)

number-at : (states : List State) (class : ℕ) (o : Option State) →
    ((((((false || is_true_by states class relation.Equal o) || is_true_by states class relation.NotEqual o) || is_true_by states class relation.Less o) || is_true_by states class relation.AtMost o)
    || is_true_by states class relation.Greater o)
    || is_true_by states class relation.AtLeast o)
    ≡ number_value_true states class o
number-at states class None = refl
number-at states class (Some (state.Path axis asked b)) = refl
number-at states class (Some (state.And ps)) = refl
number-at states class (Some (state.Or ps)) = refl
number-at states class (Some (state.Not m)) = refl
number-at states class (Some (state.Value r (Literal text))) = refl
number-at states class (Some (state.Value relation.Equal (Number units))) = go _
  where
    go : (b : Bool) → (((((b || false) || false) || false) || false) || false) ≡ b
    go true = refl
    go false = refl
number-at states class (Some (state.Value relation.NotEqual (Number units))) = go _
  where
    go : (b : Bool) → ((((b || false) || false) || false) || false) ≡ b
    go true = refl
    go false = refl
number-at states class (Some (state.Value relation.Less (Number units))) = go _
  where
    go : (b : Bool) → (((b || false) || false) || false) ≡ b
    go true = refl
    go false = refl
number-at states class (Some (state.Value relation.AtMost (Number units))) = go _
  where
    go : (b : Bool) → ((b || false) || false) ≡ b
    go true = refl
    go false = refl
number-at states class (Some (state.Value relation.Greater (Number units))) = or-false _
number-at states class (Some (state.Value relation.AtLeast (Number units))) = refl

number_there : (states : List State) (class n : ℕ) → number_value_true states class (state_at states n) ≡ (nat_lt n (length states) && number_value_true states class (state_at states n))
number_there states class n = go (state_at states n) refl
  where
    none : (b : Bool) → false ≡ (b && false)
    none true = refl
    none false = refl

    go : (o : Option State) → state_at states n ≡ o → number_value_true states class o ≡ (nat_lt n (length states) && number_value_true states class o)
    go None e = none (nat_lt n (length states))
    go (Some s) e = let l : nat_lt n (length states) ≡ true = lt-ltb n (length states) (state_at-below states n s e) in rw l refl

-- the states of the six relations, one behind the other
pub numbers-have : (states : List State) (class : ℕ) (x0 x1 x2 x3 x4 x5 x6 : List ℕ) → x0 ≡ [] →
    ((n : ℕ) → has x1 n ≡ (has x0 n || is_true_by states class relation.Equal (state_at states n))) →
    ((n : ℕ) → has x2 n ≡ (has x1 n || is_true_by states class relation.NotEqual (state_at states n))) →
    ((n : ℕ) → has x3 n ≡ (has x2 n || is_true_by states class relation.Less (state_at states n))) →
    ((n : ℕ) → has x4 n ≡ (has x3 n || is_true_by states class relation.AtMost (state_at states n))) →
    ((n : ℕ) → has x5 n ≡ (has x4 n || is_true_by states class relation.Greater (state_at states n))) →
    ((n : ℕ) → has x6 n ≡ (has x5 n || is_true_by states class relation.AtLeast (state_at states n))) →
    (n : ℕ) → has x6 n ≡ has (value_number states class) n
numbers-have states class x0 x1 x2 x3 x4 x5 x6 e0 e1 e2 e3 e4 e5 e6 n =
    rw (e6 n, e5 n, e4 n, e3 n, e2 n, e1 n, e0)
    (number-at states class (state_at states n)
    ∙ (number_there states class n
    ∙ sym (has-numbers_where (length states) (λ m. number_value_true states class (state_at states m)) n)))

pub number-set : (states : List State) (class : ℕ) (given out : List ℕ) → length states ≤ 500000 → ((n : ℕ) → has given n ≡ has (value_number states class) n) → AreRising out → ((n : ℕ) → has out n ≡ has given n) →
    IsSet (value_number states class) out
number-set states class given out = states-are (length states) (λ n. number_value_true states class (state_at states n)) given out
