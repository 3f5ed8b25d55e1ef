-- What the calls on sets and steps give.
use Rattle.std.specs.Prelude.{◌≡◌, ℕ, ◌<◌, ◌⊎◌, List, true, take}
use Rattle.px_text.specs.declared.op.Op.{Op}
use Rattle.px_rule.specs.declared.shape.Shape.{Shape}
use Rattle.px_rule.specs.declared.view.View.{View}
use Rattle.px_text.specs.Operands.{Operand, set_of, first_is_set, second_is_set}
use Rattle.px_rule.specs.Words.{Small, IsShape, step_word, key_of, is_node, nodes_of}
use Rattle.px_rule.specs.Table.{bank_in, version_in}
use Rattle.px_rule.specs.Kept.{Wrote, IsAt, KeptAt, PassedBy, KeyBlocked, Gapped, Tells, Sound, SetBlocked, SuffixWord}
use Rattle.px_intern.specs.Proper.{Proper}
use Rattle.px_intern.specs.declared.answers.Sought.{Sought}
use Rattle.px_intern.specs.declared.answers.Sought.TheVariants.{At, Blocked}
use Rattle.px_intern.specs.declared.answers.Put.{Put}
use Rattle.px_intern.specs.declared.answers.Put.TheVariants as put
use Rattle.px_intern.specs.declared.answers.Intern.{Intern}
use Rattle.px_intern.specs.declared.answers.Intern.TheVariants as intern
use Rattle.px_intern.specs.declared.answers.Find.{Find}
use Rattle.px_intern.specs.declared.answers.Find.TheVariants.{Found, Absent}

module _ {E : Type 0} (right : List E → Op → Operand → Operand → List ℕ → Type 0) (z : Shape) (k n : ℕ) where
  -- the step word with this result is kept
  abbrev pub StepKept : View E → Op → ℕ → ℕ → ℕ → Type 0
  StepKept w op a b r = Small r × ((p : ℕ) × KeptAt k n p (step_word op a b r) w)

  -- the result stands for the answer of each step that the operands stand for
  abbrev pub Answers : View E → Op → ℕ → ℕ → ℕ → Type 0
  Answers w op a b r = (first second : Operand) (x : List ℕ) → Tells right z k n w (first_is_set op) a first → Tells right z k n w (second_is_set op) b second → right (take n w.past.seen) op first second x → Tells right z k n w true r (set_of x)

  -- The step word is kept, and its result answers. Or the last touch found its path empty before any word of its key, or all places of the path hold other keys
  abbrev pub FindGives : Op → ℕ → ℕ → View E → Find → Type 0
  FindGives op a b w (Found r) = StepKept w op a b r × Answers w op a b r
  FindGives op a b w Absent = Gapped z k n (step_word op a b 0) w ⊎ KeyBlocked z k n (step_word op a b 0) w

-- The same of the bank and the version that the seat is inside at: v before the call, and w after it
module _ {E : Type 0} (right : List E → Op → Operand → Operand → List ℕ → Type 0) (z : Shape) where
  abbrev pub StaysSound : View E → View E → Type 0
  StaysSound v w = Sound right z (bank_in v.stay.place) (version_in v.stay.place) v → Sound right z (bank_in v.stay.place) (version_in v.stay.place) w

  abbrev pub IsSound : View E → Type 0
  IsSound v = Sound right z (bank_in v.stay.place) (version_in v.stay.place) v

  abbrev pub Finds : Op → ℕ → ℕ → View E → View E → Find → Type 0
  Finds op a b v w result = FindGives right z (bank_in v.stay.place) (version_in v.stay.place) op a b w result

  -- the word may stand at any place of its path
  abbrev pub IsProper : View E → ℕ → Type 0
  IsProper v w = IsShape z → Proper right z (bank_in v.stay.place) (version_in v.stay.place) v w

  -- the numbers are those of a step that is right, with its answer, by what the view keeps
  pub record IsRightStep (v : View E) (op : Op) (a b r : ℕ) : Type 0 where
    pub first : Operand
    pub second : Operand
    pub answer : List ℕ
    pub first_is : Tells right z (bank_in v.stay.place) (version_in v.stay.place) v (first_is_set op) a first
    pub second_is : Tells right z (bank_in v.stay.place) (version_in v.stay.place) v (second_is_set op) b second
    pub answer_is : Tells right z (bank_in v.stay.place) (version_in v.stay.place) v true r (set_of answer)
    pub is_right : right (take (version_in v.stay.place) v.past.seen) op first second answer

  -- the number stands for the set
  abbrev pub Names : View E → ℕ → List ℕ → Type 0
  Names v s xs = Tells right z (bank_in v.stay.place) (version_in v.stay.place) v true s (set_of xs)

  -- The number stands for the set. Or some node word of it has no place, since all places of its path hold other words
  abbrev pub Interns : List ℕ → View E → Intern → Type 0
  Interns xs w (intern.Number s) = Small s × Names w s xs
  Interns xs w (intern.Full x) = SetBlocked right z (bank_in w.stay.place) (version_in w.stay.place) w xs x

  -- only node words of the set and of its rests were written
  abbrev pub WroteNodes : List ℕ → View E → View E → Type 0
  WroteNodes xs v w = Wrote (IsAt (bank_in v.stay.place) (version_in v.stay.place) (SuffixWord right z (bank_in v.stay.place) (version_in v.stay.place) w xs)) v w

module _ {E : Type 0} where
  -- only this word was written
  abbrev pub WroteOnly : ℕ → View E → View E → Type 0
  WroteOnly word v w = Wrote (IsAt (bank_in v.stay.place) (version_in v.stay.place) (λ x. x ≡ word)) v w

module _ {E : Type 0} (z : Shape) where
  -- the first places of the path are kept with words of other keys
  abbrev pub IsPassed : ℕ → ℕ → View E → Type 0
  IsPassed word turns v = PassedBy z (bank_in v.stay.place) (version_in v.stay.place) word turns v

  -- x is kept at place p of the word's path, and has the word's key only where it is the word
  pub record TryGives (word : ℕ) (v w : View E) (p x : ℕ) : Type 0 where
    pub kept : KeptAt (bank_in v.stay.place) (version_in v.stay.place) p x w
    pub same : key_of x ≡ key_of word → x ≡ word
    pub node : is_node (key_of word) ≡ true → (0 < p) × (p < nodes_of z)

  abbrev pub SeekGives : ℕ → View E → View E → Sought → Type 0
  SeekGives word v w (At p) = KeptAt (bank_in v.stay.place) (version_in v.stay.place) p word w × (is_node (key_of word) ≡ true → (0 < p) × (p < nodes_of z))
  SeekGives word v w Blocked = KeyBlocked z (bank_in v.stay.place) (version_in v.stay.place) word w

  -- The step word is kept, or all places of its path hold other keys
  abbrev pub Puts : ℕ → View E → View E → Put → Type 0
  Puts word v w put.Put = (p : ℕ) × KeptAt (bank_in v.stay.place) (version_in v.stay.place) p word w
  Puts word v w (put.Full x) = (x ≡ word) × KeyBlocked z (bank_in v.stay.place) (version_in v.stay.place) word w
