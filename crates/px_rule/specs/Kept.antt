-- What a view keeps of a bank at one version, what it gains, and what that tells: which sets numbers stand for, and which keys are blocked.
use Rattle.std.specs.Prelude.{◌≡◌, ◌≢◌, ℕ, ◌<◌, ◌≤◌, Bool, true, List, ◌∷◌, ◌++◌, take, All}
use mathlib.Core.Option.{some}
use lib.ListN.{get_elem?}
use Rattle.px_text.specs.declared.op.Op.{Op}
use Rattle.px_rule.specs.declared.shape.Shape.{Shape}
use Rattle.px_rule.specs.declared.view.Found.{Found}
use Rattle.px_rule.specs.declared.view.Gap.{Gap}
use Rattle.px_rule.specs.declared.view.View.{View}
use Rattle.px_text.specs.Operands.{Operand, set_of}
use Rattle.px_rule.specs.Words.{Small, node_word, key_of, nodes_of, steps_of, path_of, long_of}
use Rattle.px_rule.specs.RightBanks.{RightBank}
use Rattle.px_rule.specs.Known.{found, Agrees, Stands}

-- the word was written in bank k at version n
abbrev pub IsAt : ℕ → ℕ → (ℕ → Type 0) → Found → Type 0
IsAt k n P f = (f.bank ≡ k) × (f.version ≡ n) × P f.word

module _ {E : Type 0} where
  -- The second view knows all that the first knows of places, and more, and is the same else
  pub record Grew (v w : View E) : Type 0 where
    pub past : w.past ≡ v.past
    pub stay : w.stay ≡ v.stay
    pub more : List Found
    pub kept : w.touch.kept ≡ more ++ v.touch.kept
    pub touched : v.touch.touches ≤ w.touch.touches
    pub more_gaps : List Gap
    pub gaps : w.touch.gaps ≡ more_gaps ++ v.touch.gaps

  -- The second view knows of the first n changes, and of places, all that the first knows: other calls of the seat may lie between
  pub record Since (n : ℕ) (v w : View E) : Type 0 where
    pub seen : take n w.past.seen ≡ take n v.past.seen
    pub more : List Found
    pub kept : w.touch.kept ≡ more ++ v.touch.kept
    pub touched : v.touch.touches ≤ w.touch.touches
    pub more_gaps : List Gap
    pub gaps : w.touch.gaps ≡ more_gaps ++ v.touch.gaps

  -- each word written since is so
  pub record Wrote (P : Found → Type 0) (v w : View E) : Type 0 where
    pub words : List Found
    pub since : w.touch.wrote ≡ words ++ v.touch.wrote
    pub each : All P words

  -- the word is kept of place p of bank k at version n
  abbrev pub KeptAt : ℕ → ℕ → ℕ → ℕ → View E → Type 0
  KeptAt k n p x v = (i : ℕ) × (get_elem? v.touch.kept i ≡ some (found k n p x))

  -- the last touch found the place empty
  abbrev pub GapAt : ℕ → ℕ → ℕ → View E → Type 0
  GapAt k n p v = (i : ℕ) × (get_elem? v.touch.gaps i ≡ some (record { bank = k; version = n; place = p; touches = v.touch.touches }))

  -- no word of this key is kept
  abbrev pub NoneKept : ℕ → ℕ → ℕ → View E → Type 0
  NoneKept k n w v = (p x : ℕ) → KeptAt k n p x v → key_of x ≢ key_of w

module _ {E : Type 0} (z : Shape) (k n : ℕ) where
  -- the first places of the path of the word's key are kept with words of other keys
  abbrev pub PassedBy : ℕ → ℕ → View E → Type 0
  PassedBy w turns v = (j : ℕ) → j < turns → (x : ℕ) × KeptAt k n (path_of z (key_of w) j) x v × (key_of x ≢ key_of w)

  -- and so are all of them
  abbrev pub KeyBlocked : ℕ → View E → Type 0
  KeyBlocked w v = PassedBy w (long_of z (key_of w)) v

  -- The last touch found a place of the path empty, behind words of other keys
  pub record Gapped (w : ℕ) (v : View E) : Type 0 where
    pub turn : ℕ
    pub within : turn < long_of z (key_of w)
    pub passed : PassedBy w turn v
    pub gap : GapAt k n (path_of z (key_of w) turn) v
    pub none_kept : NoneKept k n w v

  -- A touch behind the first `before` found a place of the path empty, behind words of other keys
  pub record GapGained (before w : ℕ) (v : View E) : Type 0 where
    pub turn : ℕ
    pub within : turn < long_of z (key_of w)
    pub passed : PassedBy w turn v
    pub touch : ℕ
    pub behind : before < touch
    pub at : ℕ
    pub gap : get_elem? v.touch.gaps at ≡ some (record { bank = k; version = n; place = path_of z (key_of w) turn; touches = touch })

module _ {E : Type 0} (right : List E → Op → Operand → Operand → List ℕ → Type 0) (z : Shape) (k n : ℕ) where
  -- by what the view keeps the number stands for the operand
  abbrev pub Tells : View E → Bool → ℕ → Operand → Type 0
  Tells v t a o = Stands (nodes_of z) (right (take n v.past.seen)) v.touch.kept k n t a o

  -- All that the view keeps stands in one bank that is right for the first n changes
  pub record Sound (v : View E) : Type 0 where
    pub mem : ℕ → ℕ
    pub bank : RightBank (nodes_of z) (steps_of z) (path_of z) (long_of z) (right (take n v.past.seen)) mem
    pub agrees : Agrees (nodes_of z) (steps_of z) (path_of z) (long_of z) (right (take n v.past.seen)) v.touch.kept k n mem

  -- some rest of the set has a node word that no place is free for
  pub record SetBlocked (v : View E) (xs : List ℕ) (w : ℕ) : Type 0 where
    pub front : List ℕ
    pub element : ℕ
    pub rest : List ℕ
    pub tail : ℕ
    pub suffix : xs ≡ front ++ element ∷ rest
    pub small : Small element × Small tail
    pub told : Tells v true tail (set_of rest)
    pub word : w ≡ node_word element tail
    pub blocked : KeyBlocked z k n w v

  -- the word is the node word of a rest of the set
  pub record SuffixWord (v : View E) (xs : List ℕ) (w : ℕ) : Type 0 where
    pub front : List ℕ
    pub element : ℕ
    pub rest : List ℕ
    pub tail : ℕ
    pub suffix : xs ≡ front ++ element ∷ rest
    pub told : Tells v true tail (set_of rest)
    pub word : w ≡ node_word element tail
