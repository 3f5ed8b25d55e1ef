-- A few feeds, worked out.
use Rattle.std.specs.Prelude.{◌≡◌, ℕ, ◌*◌, ◌^◌, List, [], ◌∷◌, map, pos, codes, refl, Some, None, Ok, Err}
use Rattle.px_text.specs.Nodes.{Root, NoNodes, TextThen, ElementThen}
use Rattle.px_reader.specs.Lines.{lines_of, without_end}
use Rattle.px_reader.specs.Machine.{Before, accepts}
use Rattle.px_reader.specs.Spelling.{kinds, events_of}
use Rattle.px_xpath.specs.Filters.{Way, Arrived, StepThen, Selects, Compares, EachOf, Fails, NoConditions, CondThen}
use Rattle.px_xpath.specs.Rows.{any_a, a}
use Rattle.px_xpath.specs.declared.fault.FilterFault.TheVariants.{NotAFilter}
use Rattle.px_xpath.specs.declared.filter.Axis.TheVariants.{Child, Below}
use Rattle.px_xpath.specs.declared.filter.Relation.TheVariants as relation
use Rattle.px_xpath.specs.declared.filter.Test.TheVariants as test
use Rattle.px_xpath.specs.declared.filter.Value.TheVariants.{Number, Literal}
use Rattle.px_feed.specs.declared.line.FeedKind.TheVariants.{Doc}
use Rattle.px_feed.specs.declared.line.OutLine.{OutLine}
use Rattle.px_feed.specs.declared.line.OutLine.TheVariants.{Added, Dropped, Matched, DropUnknown}
use Rattle.px_feed.specs.declared.status.Status.TheVariants.{Done, Refused}
use Rattle.px_reader.specs.declared.fault.DocKind.TheVariants.{NotHere}
use Rattle.px_feed.specs.Items.{Adding, Removing, Replacing, Outside, Skips, Brings, Starts, Misplaced, outside, AtFault}
use Rattle.px_feed.specs.Outputs.{AsksAdd, AsksDrop, AsksReplace, AsksMatches, id_of, lines_for, lines_at, text_of, status_of}

-- what the lines of some bytes do outside documents
abbrev pub outside_of : List ℕ → List Outside
outside_of bytes = map (λ line. outside (without_end line)) (lines_of bytes)

pub changes : outside_of (codes "+/a\n~1\r\n^1 /b c\n^2\n^ \n") ≡
    Brings (Adding (codes "/a")) ∷ Brings (Removing (codes "1")) ∷ Brings (Replacing (codes "1") (codes "/b c"))
    ∷ Brings (Replacing (codes "2") []) ∷ Brings (Replacing [] []) ∷ []
changes = refl

pub others : outside_of (codes "\n\r\n?x\nzz\n-\\n \\t\n-x\n(a\n(1\n)a\nAx 1\n#\n\r") ≡
    Skips ∷ Skips ∷ Skips ∷ Skips ∷ Skips ∷ Misplaced ∷ Starts ∷ Misplaced ∷ Misplaced ∷ Misplaced ∷ Misplaced ∷ Misplaced ∷ []
others = refl

pub an_id : id_of (codes "007") ≡ Some 7
an_id = refl

pub no_id : map id_of (codes "" ∷ codes "1234567890" ∷ codes "+1" ∷ codes "1 " ∷ []) ≡ None ∷ None ∷ None ∷ None ∷ []
no_id = refl

-- a feed without a line
pub nothing_written : text_of (lines_for [] []) ≡ []
nothing_written = refl

pub nothing_refused : status_of (lines_for [] []) ≡ Done
nothing_refused = refl

-- <a/>
abbrev pub only_a : Root
only_a = record { name = a; attributes = []; children = NoNodes }

-- +/a +/a (a )a ~1 (a )a ~1
abbrev pub serial_lines : List OutLine
serial_lines =
    lines_for [] (AsksAdd (Ok any_a) ∷ AsksAdd (Ok any_a) ∷ AsksMatches only_a ∷ AsksDrop (Some 1) ∷ AsksMatches only_a ∷ AsksDrop (Some 1) ∷ [])

pub serial_changes : serial_lines ≡ Added 1 ∷ Added 2 ∷ Matched 2 (1 ∷ 2 ∷ []) ∷ Dropped 1 3 ∷ Matched 3 (2 ∷ []) ∷ DropUnknown ∷ []
serial_changes = refl

pub serial_text : text_of serial_lines ≡ codes "+1\n+2\n2: 1 2\n~1 3\n3: 2\n! drop unknown\n"
unfolding Rattle.std.specs.Fmt.digits
serial_text = refl

pub serial_status : status_of serial_lines ≡ Refused
serial_status = refl

-- /b, and <b/>
abbrev pub any_b : Way
any_b = StepThen Child (test.Element (codes "b")) NoConditions Arrived

abbrev pub only_b : Root
only_b = record { name = codes "b"; attributes = []; children = NoNodes }

-- +/a ^1 /b (a )a (b )b ^2 /a ^9 [
abbrev pub replaced_lines : List OutLine
replaced_lines =
    lines_for [] (
    AsksAdd (Ok any_a) ∷ AsksReplace (Some 1) (Ok any_b) ∷ AsksMatches only_a ∷ AsksMatches only_b ∷ AsksReplace (Some 2) (Ok any_a)
    ∷ AsksReplace (Some 9) (Err (NotAFilter 0)) ∷ [])

pub replaced_text : text_of replaced_lines ≡ codes "+1\n^1 2\n2:\n2: 1\n! replace unknown\n! filter not-a-filter 0\n"
unfolding Rattle.std.specs.Fmt.digits
replaced_text = refl

-- +/a (a #, whose third line is at fault
pub faulty_text : text_of (lines_for [] (AsksAdd (Ok any_a) ∷ [])) ≡ codes "+1\n"
unfolding Rattle.std.specs.Fmt.digits
faulty_text = refl

pub fault_text : text_of (lines_at (AtFault 3 (Doc NotHere))) ≡ codes "! line 3 not-here\n"
unfolding Rattle.std.specs.Fmt.digits
fault_text = refl

pub fault_status : status_of (lines_at (AtFault 3 (Doc NotHere))) ≡ Refused
fault_status = refl

-- +/a[ (a )a
pub unread_text : text_of (lines_for [] (AsksAdd (Err (NotAFilter 3)) ∷ AsksMatches only_a ∷ [])) ≡ codes "! filter not-a-filter 3\n0:\n"
unfolding Rattle.std.specs.Fmt.digits
unread_text = refl

abbrev pub child : List ℕ → Way → Way
child name onward = StepThen Child (test.Element name) NoConditions onward

abbrev pub attribute : List ℕ → Way
attribute name = StepThen Child (test.Attribute name) NoConditions Arrived

-- /order[@id>10]/item
abbrev pub big_orders : Way
big_orders =
    StepThen Child (test.Element (codes "order")) (CondThen
    (Compares (attribute (codes "id")) relation.Greater (Number (pos (10 * 10 ^ 18)))) NoConditions) (child (codes "item") Arrived)

-- //item[@sku='A-1' and text()='Pen']
abbrev pub pens : Way
pens =
    StepThen Below (test.Element (codes "item")) (CondThen (EachOf (CondThen
    (Compares (attribute (codes "sku")) relation.Equal (Literal (codes "A-1"))) (CondThen
    (Compares (StepThen Child test.Text NoConditions Arrived) relation.Equal (Literal (codes "Pen"))) NoConditions))) NoConditions) Arrived

-- /order[not(item)]
abbrev pub bare_orders : Way
bare_orders = StepThen Child (test.Element (codes "order")) (CondThen (Fails (Selects (child (codes "item") Arrived))) NoConditions) Arrived

abbrev pub an_order : Root
an_order = record {
  name = codes "order";
  attributes = record { name = codes "id"; value = codes "17" } ∷ [];
  children =
      TextThen (codes "\n  ") (ElementThen (codes "item") (record { name = codes "sku"; value = codes "A-1" } ∷ [])
      (TextThen (codes "Pen") NoNodes) (TextThen (codes "\n") NoNodes));
}

pub order_lines : accepts Before (kinds (lines_of (codes "(order\nAid 17\n-\\n  \n(item\nAsku A-1\n-Pen\n)item\n-\\n\n)order\n"))) ≡ Some (events_of an_order)
order_lines = refl

pub order_text : text_of (lines_for [] (AsksAdd (Ok big_orders) ∷ AsksAdd (Ok pens) ∷ AsksAdd (Ok bare_orders) ∷ AsksMatches an_order ∷ [])) ≡
    codes "+1\n+2\n+3\n3: 1 2\n"
unfolding Rattle.std.specs.Fmt.digits
order_text = refl
