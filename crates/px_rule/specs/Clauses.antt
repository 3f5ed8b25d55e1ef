-- The rule once more, clause by clause, by the words and the views alone.
use Rattle.std.specs.Prelude.{◌≡◌, ◌≢◌, ℕ, ◌<◌, ◌≤◌, false, List, [], ◌∷◌, ◌++◌, map, length, slice_index, take, Some, All}
use mathlib.Core.Option.{some}
use lib.ListN.{get_elem?}
use Rattle.atomic_table.specs.Table.{State}
use Rattle.px_text.specs.declared.op.Op.{Op}
use Rattle.px_rule.specs.declared.shape.Shape.{Shape}
use Rattle.px_rule.specs.declared.view.Kind.TheVariants.{Desk, Pass, Spent}
use Rattle.px_rule.specs.declared.view.Place.TheVariants.{Outside, Inside}
use Rattle.px_rule.specs.declared.view.Found.{Found}
use Rattle.px_rule.specs.declared.view.Stand.{Stand}
use Rattle.px_rule.specs.declared.view.View.{View}
use Rattle.px_text.specs.Operands.{Operand}
use Rattle.px_rule.specs.Words.{packed, nodes_of, steps_of, path_of, long_of, bank_word, place_word}
use Rattle.px_rule.specs.RightBanks.{RightBank}
use Rattle.px_rule.specs.Histories.{Begins, named}
use Rattle.px_rule.specs.Banks.{count, Reached, IsBusy}
use Rattle.px_rule.specs.Rule.{is_pass, stay_of}

module _ {E : Type 0} (who : E → ℕ) (legal : List E → Type 0) (right : List E → Op → Operand → Operand → List ℕ → Type 0) (z : Shape) (s : State (Unit {0}) (View E)) where
  abbrev pub At : ℕ → View E → Type 0
  At i v = get_elem? s.views i ≡ some v

  abbrev pub version : ℕ
  version = slice_index s.words 0

  -- 1. There is one desk, which knows d. The version word is the length of what it has seen, which is a legal history
  abbrev pub OneDesk : ℕ → View E → Type 0
  OneDesk desk d = At desk d × (d.past.kind ≡ Desk) × (version ≡ length d.past.seen) × legal d.past.seen × ((i : ℕ) (v : View E) → At i v → v.past.kind ≡ Desk → i ≡ desk)

  -- 2. All that a seat has seen begins what the desk has seen, and the version that it found last is not above the version word
  abbrev pub Prefixes : View E → Type 0
  Prefixes d = (i : ℕ) (v : View E) → At i v → v.past.kind ≢ Spent → Begins v.past.seen d.past.seen × All (λ o. Begins o d.past.seen) v.past.olds × (v.past.last ≤ version)

  -- 3. Passes have numbers below the number made, which differ, and only passes are in banks or keep words
  abbrev pub Passes : View E → Type 0
  Passes d = ((i p : ℕ) (v : View E) → At i v → v.past.kind ≡ Pass p → p < d.past.made)
      × ((i j p : ℕ) (v w : View E) → At i v → At j w → v.past.kind ≡ Pass p → w.past.kind ≡ Pass p → i ≡ j)
      × ((i : ℕ) (v : View E) → At i v → is_pass v.past.kind ≡ false → (v.stay.place ≡ Outside) × (v.touch.kept ≡ []))

  -- 4. The word of a bank has the version and the building bit that the desk knows, and counts the seats inside it or stray in it
  abbrev pub BankWords : View E → Type 0
  BankWords d = (length d.stay.stands ≡ z.banks) × ((k : ℕ) (b : Stand) → get_elem? d.stay.stands k ≡ some b
      → (bank_word z s.words k ≡ packed b.version b.building (count k (map stay_of s.views))) × (b.version ≤ version) × (b.building ≤ 1))

  -- 5. A seat inside a bank finds it at its version, and not being built
  abbrev pub InsideStands : View E → Type 0
  InsideStands d = (i k n : ℕ) (v : View E) → At i v → v.stay.place ≡ Inside k n → (b : Stand) × (get_elem? d.stay.stands k ≡ some b) × (b.version ≡ n) × (b.building ≡ 0)

  -- 6. A stay or a kept word has a version that its bank has reached; while the bank has it, the bank stands and the word is at its place
  abbrev pub KeptStands : View E → Type 0
  KeptStands d = (i : ℕ) (v : View E) → At i v → All (Reached d.stay.stands) v.stay.stays
      × All (λ (f : Found). (b : Stand) × (get_elem? d.stay.stands f.bank ≡ some b) × (f.version ≤ b.version) × (f.version ≡ b.version → (b.building ≡ 0) × (place_word z s.words f.bank f.place ≡ f.word))) v.touch.kept

  -- 7. A bank that is not being built is right for the first changes, as many as its version
  abbrev pub RightBanks : View E → Type 0
  RightBanks d = (k : ℕ) (b : Stand) → get_elem? d.stay.stands k ≡ some b → b.building ≡ 0
      → RightBank (nodes_of z) (steps_of z) (path_of z) (long_of z) (right (take b.version d.past.seen)) (place_word z s.words k)

  -- 8. At most one bank is being built, and the places that the desk counts as zeroed are 0
  abbrev pub OneBuilt : View E → Type 0
  OneBuilt d = ((j k : ℕ) (a b : Stand) → get_elem? d.stay.stands j ≡ some a → get_elem? d.stay.stands k ≡ some b → a.building ≡ 1 → b.building ≡ 1 → j ≡ k)
      × ((k p : ℕ) (b : Stand) → get_elem? d.stay.stands k ≡ some b → b.building ≡ 1 → p < b.zeroed → place_word z s.words k p ≡ 0)

  -- 9. A claim that failed found calls inside, at an earlier version
  abbrev pub BusyCounted : Type 0
  BusyCounted = (i : ℕ) (v : View E) → At i v → All IsBusy v.stay.busy

  -- 10. Entries name passes that were made. Those of a pass begin what it has asked for, and a permit, of which there is one at most, is for the one entry more
  abbrev pub Entries : View E → Type 0
  Entries d = All (λ e. who e < d.past.made) d.past.seen
      × ((i p : ℕ) (v : View E) → At i v → v.past.kind ≡ Pass p → Begins (named who p d.past.seen) v.past.mine)
      × ((i j : ℕ) (v w : View E) (e f : E) → At i v → At j w → v.past.permit ≡ Some e → w.past.permit ≡ Some f → who e ≡ who f → i ≡ j)
      × ((i j : ℕ) (v w : View E) (e : E) → At i v → At j w → v.past.permit ≡ Some e → w.past.kind ≡ Pass (who e) → w.past.mine ≡ named who (who e) d.past.seen ++ e ∷ [])

  pub record Clauses : Type 0 where
    pub desk : ℕ
    pub d : View E
    pub one_desk : OneDesk desk d
    pub prefixes : Prefixes d
    pub passes : Passes d
    pub bank_words : BankWords d
    pub inside_stands : InsideStands d
    pub kept_stands : KeptStands d
    pub right_banks : RightBanks d
    pub one_built : OneBuilt d
    pub busy_counted : BusyCounted
    pub entries : Entries d

-- There was a moment between two steps at which a seat knew v and the version word was n, and all clauses held
module _ {E : Type 0} (who : E → ℕ) (legal : List E → Type 0) (right : List E → Op → Operand → Operand → List ℕ → Type 0) (z : Shape) where
  pub record Moment (v : View E) (n : ℕ) : Type 0 where
    pub state : State (Unit {0}) (View E)
    pub seat : ℕ
    pub knows : get_elem? state.views seat ≡ some v
    pub version_is : slice_index state.words 0 ≡ n
    pub clauses : Clauses who legal right z state
