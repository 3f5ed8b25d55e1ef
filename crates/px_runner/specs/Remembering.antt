-- What a memo remembers: sets under numbers, and the answers of steps under the numbers of their operands.
use Rattle.std.specs.Prelude.{◌≡◌, ℕ, ◌+◌, ◌*◌, ◌<◌, List, Option, Some, None, IfSome, slice_get, nat_eq}
use Rattle.std.specs.Ordering.{nat_cmp}
use Rattle.std.specs.Cmp.Lexicographic.{slice_cmp}
use Rattle.std.specs.BTreeMap as tree
use Rattle.std.specs.BTreeMap.{BTreeMap}
use Rattle.std.specs.HashMap as hash
use Rattle.std.specs.HashMap.{HashMap}
use Rattle.px_text.specs.declared.op.Op.{Op}
use Rattle.px_text.specs.declared.op.Op.TheVariants.{TextClass, NumberClass, Pop, Add, Push, Mask}
use Rattle.px_text.specs.Operands.{Operand, index, set_of}
use Rattle.px_afa.specs.declared.state.State.{State}
use Rattle.px_afa.specs.Building.{Automata}
use Rattle.px_afa.specs.Sets.{first_set}
use Rattle.px_afa.specs.Steps.{TakesOperands, answer_of}
use Rattle.px_runner.specs.declared.held.Held.{Held}
use Rattle.px_runner.specs.declared.held.Held.TheVariants.{Plain, Numbered, Own}

-- the program that it works for, and the sets by their numbers
pub record Remembered : Type 0 where
  pub automata : Automata
  pub sets : List (List ℕ)

-- a number stands for the set under it, and a set for itself
abbrev pub StandsFor : List (List ℕ) → Held → List ℕ → Type 0
StandsFor sets (Plain n) set = ⊥
StandsFor sets (Numbered n) set = slice_get sets n ≡ Some set
StandsFor sets (Own own) set = own ≡ set

-- each set stays under its number
abbrev pub Grows : List (List ℕ) → List (List ℕ) → Type 0
Grows old new = (n : ℕ) (set : List ℕ) → slice_get old n ≡ Some set → slice_get new n ≡ Some set

-- the set of first states has the number, where there is one
abbrev pub AreFirsts : Automata → List (List ℕ) → Option ℕ → Type 0
AreFirsts automata sets firsts = IfSome firsts (λ n. slice_get sets n ≡ Some (first_set automata.firsts))

-- the map has each set with its number, and no other
abbrev pub AreNumbered : List (List ℕ) → BTreeMap (List ℕ) ℕ → Type 0
AreNumbered sets numbers =
    (set : List ℕ) (n : ℕ) → (tree.get (slice_cmp nat_cmp) numbers set ≡ Some n → slice_get sets n ≡ Some set)
    × (slice_get sets n ≡ Some set → tree.get (slice_cmp nat_cmp) numbers set ≡ Some n)

-- the number by which a fact knows a value
abbrev pub number_of : Held → Option ℕ
number_of (Plain n) = Some n
number_of (Numbered n) = Some n
number_of (Own set) = None

-- the number is the class or the label, or the set's
abbrev pub IsNumberOf : List (List ℕ) → ℕ → Operand → Type 0
IsNumberOf sets n (set_of set) = slice_get sets n ≡ Some set
IsNumberOf sets n (index k) = n ≡ k

-- The numbers are those of operands which the operation takes, and of their answer.
pub record IsFact (states : List State) (sets : List (List ℕ)) (op : Op) (a b answer : ℕ) : Type 0 where
  pub x : Operand
  pub y : Operand
  pub first : IsNumberOf sets a x
  pub second : IsNumberOf sets b y
  pub taken : TakesOperands op x y
  pub answers : slice_get sets answer ≡ Some (answer_of states op x y)

abbrev pub code_of : Op → ℕ
code_of TextClass = 0
code_of NumberClass = 1
code_of Pop = 2
code_of Add = 3
code_of Push = 4
code_of Mask = 5

-- an operation and two numbers below 2^32 in one
abbrev pub key_of : Op → (a b : ℕ) → ℕ
key_of op a b = (code_of op * 4294967296 + a) * 4294967296 + b

-- each answer in the map is a fact
abbrev pub AreFacts : {S : Type 0} → List State → List (List ℕ) → HashMap ℕ ℕ S → Type 0
AreFacts states sets facts =
    (op : Op) (a b answer : ℕ) → a < 4294967296 → b < 4294967296 → hash.get nat_eq facts (key_of op a b) ≡ Some answer → IsFact states sets op a b answer
