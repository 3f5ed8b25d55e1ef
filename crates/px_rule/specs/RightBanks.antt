-- The sets that numbers name in a bank, and when the words of a bank are right.
use Rattle.std.specs.Prelude.{◌≡◌, ◌≢◌, ℕ, ◌+◌, ◌<◌, ◌≤◌, Bool, true, false, List, [], ◌∷◌}
use Rattle.px_text.specs.declared.op.Op.{Op}
use Rattle.px_text.specs.Sets.{Above}
use Rattle.px_text.specs.Operands.{Operand, index, set_of, first_is_set, second_is_set}
use Rattle.px_rule.specs.Words.{Small, node_word, step_word, key_of}

-- the second bank has each word of the first, and what changed was 0
abbrev pub Grown : (ℕ → ℕ) → (ℕ → ℕ) → Type 0
Grown mem later = (p : ℕ) → mem p ≢ 0 → later p ≡ mem p

-- `nodes` is the number of node places, and `mem` gives the word at each place.
module _ (nodes : ℕ) (mem : ℕ → ℕ) where
  -- Number s names this set: none for 0, else the element of the word at node place s and the set of its tail
  abbrev pub SetAt : ℕ → List ℕ → Type 0
  SetAt s [] = s ≡ 0
  SetAt s (e ∷ es) = (tail : ℕ) × (0 < s) × (s < nodes) × Small e × Small tail × (mem s ≡ node_word e tail) × Above e es × SetAt tail es

  -- an operand of a step: an index itself, or the number of a set
  pub data Means : Bool → ℕ → Operand → Type 0 where
    as_index : (a : ℕ) → Means false a (index a)
    as_set : (a : ℕ) (x : List ℕ) → SetAt a x → Means true a (set_of x)

  -- One number: a set has one number, and a number names one set
  abbrev pub OneNumber : Type 0
  OneNumber = (x : List ℕ) (s t : ℕ) → SetAt s x → SetAt t x → s ≡ t

  abbrev pub OneSet : Type 0
  OneSet = (s : ℕ) (x y : List ℕ) → SetAt s x → SetAt s y → x ≡ y

-- `path` gives the place at each turn of a key's path, `long` how many turns it has, and `right` says which answers are right.
module _ (nodes steps : ℕ) (path : ℕ → ℕ → ℕ) (long : ℕ → ℕ) (right : Op → Operand → Operand → List ℕ → Type 0) where
  -- the word is that of a step, whose operands and result name sets and whose answer is right
  pub record IsStep (mem : ℕ → ℕ) (w : ℕ) : Type 0 where
    pub op : Op
    pub a : ℕ
    pub b : ℕ
    pub r : ℕ
    pub first : Operand
    pub second : Operand
    pub answer : List ℕ
    pub small : Small a × Small b × Small r
    pub word : w ≡ step_word op a b r
    pub first_is : Means nodes mem (first_is_set op) a first
    pub second_is : Means nodes mem (second_is_set op) b second
    pub answer_is : SetAt nodes mem r answer
    pub is_right : right op first second answer

  -- the word stands on the path of its key, behind words of other keys
  pub record OnPath (mem : ℕ → ℕ) (w p : ℕ) : Type 0 where
    pub turn : ℕ
    pub within : turn < long (key_of w)
    pub here : path (key_of w) turn ≡ p
    pub before : (j : ℕ) → j < turn → (mem (path (key_of w) j) ≢ 0) × (key_of (mem (path (key_of w) j)) ≢ key_of w)

  -- Each node place that is not 0 names a set, each step place that is not 0 holds a right step, and each word stands on its path
  pub record RightBank (mem : ℕ → ℕ) : Type 0 where
    pub node : (p : ℕ) → p < nodes → mem p ≢ 0 → (e : ℕ) × (es : List ℕ) × SetAt nodes mem p (e ∷ es)
    pub step : (p : ℕ) → nodes ≤ p → p < nodes + steps → mem p ≢ 0 → IsStep mem (mem p)
    pub path_of : (p : ℕ) → p < nodes + steps → mem p ≢ 0 → OnPath mem (mem p) p
