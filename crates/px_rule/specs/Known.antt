-- What a seat's kept words tell of a bank at one version, and when it may write there.
use Rattle.std.specs.Prelude.{◌≡◌, ◌≢◌, ℕ, ◌+◌, ◌<◌, ◌≤◌, Bool, true, false, List, [], ◌∷◌}
use mathlib.Core.Option.{some}
use lib.ListN.{get_elem?}
use Rattle.px_text.specs.declared.op.Op.{Op}
use Rattle.px_rule.specs.declared.view.Found.{Found}
use Rattle.px_text.specs.Operands.{Operand, index, set_of, first_is_set, second_is_set}
use Rattle.px_rule.specs.Words.{Small, node_word, step_word, key_of}
use Rattle.px_text.specs.Sets.{Above}

abbrev pub found : ℕ → ℕ → ℕ → ℕ → Found
found k n p w = record { bank = k; version = n; place = p; word = w }

-- Of bank k at version n, by the words `kept`.
module _ (nodes : ℕ) (right : Op → Operand → Operand → List ℕ → Type 0) (kept : List Found) (k n : ℕ) where
  abbrev pub Has : ℕ → ℕ → Type 0
  Has p w = (i : ℕ) × (get_elem? kept i ≡ some (found k n p w))

  -- the set that a number names, by the kept node words alone
  abbrev pub KeptSet : ℕ → List ℕ → Type 0
  KeptSet s [] = s ≡ 0
  KeptSet s (e ∷ es) = (tail : ℕ) × (0 < s) × (s < nodes) × Small e × Small tail × Has s (node_word e tail) × Above e es × KeptSet tail es

  -- A number stands for an operand: an index itself, a set by the kept node words, or a set that is the answer of a kept step
  pub data Stands : Bool → ℕ → Operand → Type 0 where
    plain : (a : ℕ) → Stands false a (index a)
    named : (s : ℕ) (x : List ℕ) → KeptSet s x → Stands true s (set_of x)
    answered : (p : ℕ) (op : Op) (a b r : ℕ) (first second : Operand) (x : List ℕ) → Small a × Small b × Small r → Has p (step_word op a b r)
        → Stands (first_is_set op) a first → Stands (second_is_set op) b second → right op first second x → Stands true r (set_of x)

module _ (nodes steps : ℕ) (path : ℕ → ℕ → ℕ) (long : ℕ → ℕ) (right : Op → Operand → Operand → List ℕ → Type 0) (kept : List Found) (k n : ℕ) where
  -- every kept word stands at its place
  abbrev pub Agrees : (ℕ → ℕ) → Type 0
  Agrees mem = (p w : ℕ) → Has nodes right kept k n p w → (mem p ≡ w) × (w ≢ 0) × (p < nodes + steps)

  -- The seat may write w at p: it has seen words of other keys at all earlier places of the path, and the word is that of a node above its tail or of a right step
  pub record MayPut (p w : ℕ) : Type 0 where
    pub some_word : w ≢ 0
    pub within : p < nodes + steps
    pub turn : ℕ
    pub on_path : (turn < long (key_of w)) × (path (key_of w) turn ≡ p)
    pub before : (j : ℕ) → j < turn → (x : ℕ) × Has nodes right kept k n (path (key_of w) j) x × (key_of x ≢ key_of w)
    pub as_node : p < nodes → (e : ℕ) × (t : ℕ) × (es : List ℕ) × (0 < p) × Small e × Small t × (w ≡ node_word e t) × Above e es × Stands nodes right kept k n true t (set_of es)
    pub as_step : nodes ≤ p → (op : Op) × (a : ℕ) × (b : ℕ) × (r : ℕ) × (first : Operand) × (second : Operand) × (x : List ℕ)
        × Small a × Small b × Small r × (w ≡ step_word op a b r)
        × Stands nodes right kept k n (first_is_set op) a first × Stands nodes right kept k n (second_is_set op) b second × Stands nodes right kept k n true r (set_of x) × right op first second x
