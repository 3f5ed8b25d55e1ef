-- Which words may stand on their paths, by what a view keeps.
use Rattle.std.specs.Prelude.{◌≡◌, ◌≢◌, ℕ, ◌<◌, ◌≤◌, true, List, take}
use Rattle.px_text.specs.declared.op.Op.{Op}
use Rattle.px_text.specs.Sets.{Above}
use Rattle.px_rule.specs.declared.shape.Shape.{Shape}
use Rattle.px_rule.specs.declared.view.View.{View}
use Rattle.px_text.specs.Operands.{Operand, set_of, first_is_set, second_is_set}
use Rattle.px_rule.specs.Words.{Small, node_word, step_word, key_of, nodes_of, path_of, long_of}
use Rattle.px_rule.specs.Kept.{Tells}

module _ {E : Type 0} (right : List E → Op → Operand → Operand → List ℕ → Type 0) (z : Shape) (k n : ℕ) where
  -- the word may stand at node place p: its tail is told, and its element is below that
  abbrev pub AsNode : View E → ℕ → ℕ → Type 0
  AsNode v p w = (e : ℕ) × (t : ℕ) × (es : List ℕ) × (0 < p) × Small e × Small t × (w ≡ node_word e t) × Above e es × Tells right z k n v true t (set_of es)

  -- the word is that of a right step between numbers that are told
  abbrev pub AsStep : View E → ℕ → Type 0
  AsStep v w = (op : Op) × (a : ℕ) × (b : ℕ) × (r : ℕ) × (first : Operand) × (second : Operand) × (x : List ℕ)
      × Small a × Small b × Small r × (w ≡ step_word op a b r)
      × Tells right z k n v (first_is_set op) a first × Tells right z k n v (second_is_set op) b second × Tells right z k n v true r (set_of x) × right (take n v.past.seen) op first second x

  -- the word may stand at any place of its path
  pub record Proper (v : View E) (w : ℕ) : Type 0 where
    pub some_word : w ≢ 0
    pub as_node : (i : ℕ) → i < long_of z (key_of w) → path_of z (key_of w) i < nodes_of z → AsNode v (path_of z (key_of w) i) w
    pub as_step : (i : ℕ) → i < long_of z (key_of w) → nodes_of z ≤ path_of z (key_of w) i → AsStep v w
