-- What the worked documents spell, and where they stop beginning one.
use Rattle.std.proofs.Common.{◌≡◌, ◌<◌, true, false, ℕ, List, [], ◌∷◌, ◌++◌, map, refl, arith, codes}
use Rattle.px_text.specs.declared.attribute.Attribute.{Attribute}
use Rattle.px_text.specs.Nodes.{Nodes, NoNodes, TextThen, ElementThen}
use Rattle.px_reader.specs.declared.event.Event.{Event}
use Rattle.px_reader.specs.declared.event.Event.TheVariants.{Start, Attr, Text, End}
use Rattle.px_reader.specs.Judged.{BeginsTree}
use Rattle.px_reader.specs.Lines.{lines_of}
use Rattle.px_reader.specs.Spelling.{nothing, says, element, IsDocument, attribute_event, events, names_differ}
use Rattle.px_reader.specs.Trees.{AreNodes}
use Rattle.px_reader.specs.Verdicts.{Shows}
use Rattle.px_reader.specs.declared.fault.DocKind.TheVariants.{NotHere}
use Rattle.px_reader.specs.Rows.{first_tree, first_kinds, a, b, c}
use Rattle.px_reader.proofs.Begins.{begins_iff}

one : 0 < 1
one = omega arith

pub first_spells : IsDocument first_kinds first_tree
first_spells = record {
  before = [];
  body = _;
  after = [];
  whole = refl;
  differ = refl;
  children = element b [] refl (says (codes "1" ∷ []) one refl nothing) (element a _ refl nothing nothing);
  outside = refl;
}

-- the second line is the first at which no document can begin any more
pub wrong_end_is_not_here : Shows (lines_of (codes "(a\n)b\n")) 1 NotHere
wrong_end_is_not_here = ((begins_iff (codes "(a\n" ∷ [])).1 refl, λ h. let s = (begins_iff (codes "(a\n" ∷ codes ")b\n" ∷ [])).0 h in cc)

-- no tree has two attributes of one name, nor an empty text
twice_not : (nodes : Nodes) (ps : List Attribute) (name : List ℕ) (more : List Event) → names_differ ps ≡ true →
    Start name ∷ (map attribute_event ps ++ (events nodes ++ End ∷ [])) ≡ Start a ∷ Attr b a ∷ Attr b c ∷ Text [] ∷ more → ⊥
twice_not NoNodes [] name more d e = cc
twice_not (TextThen text behind) [] name more d e = cc
twice_not (ElementThen child attributes children behind) [] name more d e = cc
twice_not NoNodes (one ∷ []) name more d e = cc
twice_not (TextThen text behind) (one ∷ []) name more d e = cc
twice_not (ElementThen child attributes children behind) (one ∷ []) name more d e = cc
twice_not nodes (one ∷ two ∷ ps) name more d e =
    let first : one.name ≡ b = cc in
    let second : two.name ≡ b = cc in
    let again : names_differ (one ∷ two ∷ ps) ≡ false = rw (first, second) refl in
    cc

pub twice_is_no_tree : BeginsTree (Start a ∷ Attr b a ∷ Attr b c ∷ Text [] ∷ []) → ⊥
twice_is_no_tree (root, more, is, all) = twice_not root.children root.attributes root.name more is.0 all

empty_not : (nodes : Nodes) (ps : List Attribute) (name : List ℕ) (more : List Event) → AreNodes nodes →
    Start name ∷ (map attribute_event ps ++ (events nodes ++ End ∷ [])) ≡ Start a ∷ Text [] ∷ more → ⊥
empty_not nodes (one ∷ ps) name more is e = cc
empty_not NoNodes [] name more is e = cc
empty_not (TextThen [] behind) [] name more is e = absurd (let some = is.0 in omega (arith, some))
empty_not (TextThen (x ∷ text) behind) [] name more is e = cc
empty_not (ElementThen child attributes children behind) [] name more is e = cc

pub empty_is_no_tree : BeginsTree (Start a ∷ Text [] ∷ []) → ⊥
empty_is_no_tree (root, more, is, all) = empty_not root.children root.attributes root.name more is.1 all
