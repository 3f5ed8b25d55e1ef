-- The classes of texts: numbers that say which Value states are true of them.
use Rattle.std.specs.Prelude.{ℕ, zero, suc, ℤ, Bool, true, false, not, cond, List, [], ◌∷◌, ◌++◌, Option, Some, None, option_map, nat_eq, bytes_eq}
use Rattle.std.specs.List.{list_any}
use Rattle.std.specs.Ordering.{nat_cmp, int_cmp}
use Rattle.std.specs.declared.cmp.Ordering.{Ordering}
use Rattle.std.specs.declared.cmp.Ordering.TheVariants.{Less, Equal, Greater}
use Rattle.px_text.specs.Numbers.{read, order, decimal_of}
use Rattle.px_xpath.specs.declared.filter.Relation.{Relation}
use Rattle.px_xpath.specs.declared.filter.Relation.TheVariants as relation
use Rattle.px_xpath.specs.declared.filter.Value.TheVariants.{Number, Literal}
use Rattle.px_xpath.specs.Meaning.{allows}
use Rattle.px_afa.specs.declared.state.State.{State}
use Rattle.px_afa.specs.declared.state.State.TheVariants as state

abbrev pub state_literal : State → Option (List ℕ)
state_literal (state.Value r (Literal text)) = Some text
state_literal _ = None

abbrev pub with_literal : Option (List ℕ) → List (List ℕ) → List (List ℕ)
with_literal None literals = literals
with_literal (Some text) literals = cond (list_any (λ literal. bytes_eq literal text) literals) literals (literals ++ text ∷ [])

-- the string literals of Value states, in order of the first state
abbrev pub literals_of : List State → List (List ℕ)
literals_of [] = []
literals_of (s ∷ before) = with_literal (state_literal s) (literals_of before)

-- the place of the literal that a text equals, counted from i, or 0
abbrev pub class_of_text : ℕ → List (List ℕ) → List ℕ → ℕ
class_of_text i [] text = 0
class_of_text i (literal ∷ literals) text = cond (bytes_eq literal text) i (class_of_text (suc i) literals text)

abbrev pub text_class : List State → List ℕ → ℕ
text_class states text = class_of_text 1 (literals_of states) text

abbrev pub state_constant : State → Option ℤ
state_constant (state.Value r (Number units)) = Some units
state_constant _ = None

abbrev pub with_constant : ℤ → List ℤ → List ℤ
with_constant x [] = x ∷ []
with_constant x (y ∷ ys) = elim (int_cmp x y) [ Less ↦ x ∷ y ∷ ys | Equal ↦ y ∷ ys | Greater ↦ y ∷ with_constant x ys ]

abbrev pub with_if_some : Option ℤ → List ℤ → List ℤ
with_if_some None constants = constants
with_if_some (Some units) constants = with_constant units constants

-- the number literals of Value states, each value once, rising
abbrev pub constants_of : List State → List ℤ
constants_of [] = []
constants_of (s ∷ before) = with_if_some (state_constant s) (constants_of before)

-- How a number stands to each constant. None is no number.
abbrev pub cut_of : List ℕ → Option (ℤ → Ordering)
cut_of text = option_map (λ n units. order n (decimal_of units)) (read text)

-- Where a number stands among rising constants, of which some were passed, two for each: even at a constant, and odd between two.
abbrev pub cut_class : (passed : ℕ) → List ℤ → (ℤ → Ordering) → ℕ
cut_class passed [] cut = suc passed
cut_class passed (c ∷ constants) cut =
    elim (cut c) [ Less ↦ suc passed | Equal ↦ suc (suc passed) | Greater ↦ cut_class (suc (suc passed)) constants cut ]

-- 0 is no number
abbrev pub class_of_number : List ℤ → Option (ℤ → Ordering) → ℕ
class_of_number constants None = 0
class_of_number constants (Some cut) = cut_class 0 constants cut

abbrev pub number_class : List State → List ℕ → ℕ
number_class states text = class_of_number (constants_of states) (cut_of text)

-- the class of a constant itself
abbrev pub constant_class : List State → ℤ → ℕ
constant_class states units = cut_class 0 (constants_of states) (int_cmp units)

-- the Value state is true of texts of the text class
abbrev pub text_value_true : List State → ℕ → Option State → Bool
text_value_true states class (Some (state.Value relation.Equal (Literal text))) = nat_eq class (text_class states text)
text_value_true states class (Some (state.Value relation.NotEqual (Literal text))) = not (nat_eq class (text_class states text))
text_value_true states class _ = false

-- what is no number is different from every constant, and nothing else
abbrev pub class_compares : Relation → (class at : ℕ) → Bool
class_compares relation.NotEqual zero at = true
class_compares _ zero at = false
class_compares r (suc class) at = allows r (nat_cmp (suc class) at)

-- the Value state is true of texts of the number class
abbrev pub number_value_true : List State → ℕ → Option State → Bool
number_value_true states class (Some (state.Value r (Number units))) = class_compares r class (constant_class states units)
number_value_true states class _ = false
