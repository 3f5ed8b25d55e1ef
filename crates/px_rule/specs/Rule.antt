-- The rule: what holds of all words and all views between any two steps.
use Rattle.std.specs.Prelude.{◌≡◌, ℕ, Bool, true, false, List, [], map, length, slice_index}
use mathlib.Core.Option.{some}
use lib.ListN.{get_elem?}
use Rattle.atomic_table.specs.Table.{State}
use Rattle.px_text.specs.declared.op.Op.{Op}
use Rattle.px_rule.specs.declared.shape.Shape.{Shape}
use Rattle.px_rule.specs.declared.view.Kind.{Kind}
use Rattle.px_rule.specs.declared.view.Kind.TheVariants.{Desk, Pass}
use Rattle.px_rule.specs.declared.view.Past.{Past}
use Rattle.px_rule.specs.declared.view.Stand.{Stand}
use Rattle.px_rule.specs.declared.view.Stay.{Stay}
use Rattle.px_rule.specs.declared.view.Touch.{Touch}
use Rattle.px_rule.specs.declared.view.View.{View}
use Rattle.px_text.specs.Operands.{Operand}
use Rattle.px_rule.specs.Words.{nodes_of, steps_of, words_of, path_of, long_of, bank_word, place_word}
use Rattle.px_rule.specs.Histories.{Histories}
use Rattle.px_rule.specs.Banks.{Banks}
use Rattle.px_rule.specs.Places.{Places}

abbrev pub is_desk : Kind → Bool
is_desk Desk = true
is_desk _ = false

abbrev pub is_pass : Kind → Bool
is_pass (Pass p) = true
is_pass _ = false

module _ {E : Type 0} where
  abbrev pub past_of : View E → Past E
  past_of v = v.past

  abbrev pub stay_of : View E → Stay
  stay_of v = v.stay

  abbrev pub touch_of : View E → Touch
  touch_of v = v.touch

  -- The parts of a view are of one seat: a pass alone may be in a bank and keep words, and the desk alone has the banks' states
  pub record Alike (v : View E) : Type 0 where
    pub walks : v.stay.walks ≡ is_pass v.past.kind
    pub keeps : v.stay.keeps ≡ is_desk v.past.kind
    pub kept : is_pass v.past.kind ≡ false → v.touch.kept ≡ []

-- The history, the desk's seat, the number of passes, for each pass its seat, the holder of its permit and what it has asked for, and the state of each bank;
-- and that the three parts of the rule hold of these, of the words and of that part of all views.
module _ {E : Type 0} (who : E → ℕ) (legal : List E → Type 0) (right : List E → Op → Operand → Operand → List ℕ → Type 0) (z : Shape) where
  pub record Rule (s : State (Unit {0}) (View E)) : Type 0 where
    pub log : List E
    pub desk : ℕ
    pub made : ℕ
    pub seat : ℕ → ℕ
    pub holder : ℕ → ℕ
    pub mine : ℕ → List E
    pub stands : List Stand
    pub wide : length stands ≡ z.banks
    pub sized : length s.words ≡ words_of z
    pub alike : (i : ℕ) (v : View E) → get_elem? s.views i ≡ some v → Alike v
    pub past : Histories who legal log desk made seat holder mine (slice_index s.words 0) (map past_of s.views)
    pub banks : Banks (slice_index s.words 0) (bank_word z s.words) stands desk made (map stay_of s.views)
    pub places : Places (nodes_of z) (steps_of z) (path_of z) (long_of z) right log stands (place_word z s.words) (map touch_of s.views)
