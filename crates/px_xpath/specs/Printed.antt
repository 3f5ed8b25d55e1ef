-- The printed form of a filter.
use Rattle.std.specs.Prelude.{ℕ, Bool, true, false, ◌==◌, List, [], ◌∷◌, ◌++◌, codes, if◌then◌else◌}
use Rattle.std.specs.List.{list_any}
use Rattle.px_text.specs.Printing as number
use Rattle.px_xpath.specs.declared.filter.Axis.{Axis}
use Rattle.px_xpath.specs.declared.filter.Axis.TheVariants.{Child, Below}
use Rattle.px_xpath.specs.declared.filter.Test.{Test}
use Rattle.px_xpath.specs.declared.filter.Test.TheVariants.{Element, AnyElement, Attribute, AnyAttribute, Text}
use Rattle.px_xpath.specs.declared.filter.Relation.{Relation}
use Rattle.px_xpath.specs.declared.filter.Relation.TheVariants.{Equal, NotEqual, Less, AtMost, Greater, AtLeast}
use Rattle.px_xpath.specs.declared.filter.Value.{Value}
use Rattle.px_xpath.specs.declared.filter.Value.TheVariants.{Number, Literal}
use Rattle.px_xpath.specs.declared.printer.Joint.{Joint}
use Rattle.px_xpath.specs.declared.printer.Joint.TheVariants.{Both, Either}
use Rattle.px_xpath.specs.Filters.{Way, Arrived, StepThen, Condition, Selects, Compares, EachOf, SomeOf, Fails, Conditions, NoConditions, CondThen}

-- what stands before a step that is not the first of a relative path
abbrev pub printed_axis : Axis → List ℕ
printed_axis Child = codes "/"
printed_axis Below = codes "//"

-- and before one that is
abbrev pub printed_start : Axis → List ℕ
printed_start Child = []
printed_start Below = codes ".//"

-- what a step stands for
abbrev pub printed_test : Test → List ℕ
printed_test (Element name) = name
printed_test AnyElement = codes "*"
printed_test (Attribute name) = 64 ∷ name
printed_test AnyAttribute = codes "@*"
printed_test Text = codes "text()"

-- the sign of a comparison
abbrev pub printed_relation : Relation → List ℕ
printed_relation Equal = codes "="
printed_relation NotEqual = codes "!="
printed_relation Less = codes "<"
printed_relation AtMost = codes "<="
printed_relation Greater = codes ">"
printed_relation AtLeast = codes ">="

-- the quote of a literal: a double one, or a single one where the literal contains a double one
abbrev pub quote_of : List ℕ → ℕ
quote_of text = if list_any (λ b. b == 34) text then 39 else 34

-- a literal in its quotes, as it stands
abbrev pub printed_literal : List ℕ → List ℕ
printed_literal text = quote_of text ∷ text ++ quote_of text ∷ []

-- what a path is compared with
abbrev pub printed_value : Value → List ℕ
printed_value (Number units) = number.printed units
printed_value (Literal text) = printed_literal text

-- the word between two members
abbrev pub joining : Joint → List ℕ
joining Both = codes " and "
joining Either = codes " or "

-- whether a condition stands in round brackets as a member: an `or` in both, an `and` in an `and`
abbrev pub stands_bracketed : Joint → Condition → Bool
stands_bracketed Both (EachOf _) = true
stands_bracketed _ (SomeOf _) = true
stands_bracketed _ _ = false

-- a text in round brackets
abbrev pub in_round_brackets : List ℕ → List ℕ
in_round_brackets text = 40 ∷ text ++ 41 ∷ []

-- a text in round brackets, or as it is
abbrev pub in_brackets_if : Bool → List ℕ → List ℕ
in_brackets_if true text = in_round_brackets text
in_brackets_if false text = text

abbrev mutual
  -- steps, each behind its axis
  pub printed_steps : Way → List ℕ
  printed_steps Arrived = []
  printed_steps (StepThen axis t conds onward) = printed_axis axis ++ (printed_test t ++ (printed_preds conds ++ printed_steps onward))

  -- a path inside a condition
  pub printed_path : Way → List ℕ
  printed_path Arrived = []
  printed_path (StepThen axis t conds onward) = printed_start axis ++ (printed_test t ++ (printed_preds conds ++ printed_steps onward))

  -- each condition of a step in square brackets of its own
  pub printed_preds : Conditions → List ℕ
  printed_preds NoConditions = []
  printed_preds (CondThen c rest) = 91 ∷ printed_condition c ++ (93 ∷ printed_preds rest)

  -- a condition with no brackets round it
  pub printed_condition : Condition → List ℕ
  printed_condition (Selects path) = printed_path path
  printed_condition (Compares path r v) = printed_path path ++ (printed_relation r ++ printed_value v)
  printed_condition (EachOf conds) = printed_members Both conds
  printed_condition (SomeOf conds) = printed_members Either conds
  printed_condition (Fails c) = codes "not" ++ in_round_brackets (printed_condition c)

  -- members, with the word between each two
  pub printed_members : Joint → Conditions → List ℕ
  printed_members joint NoConditions = []
  printed_members joint (CondThen c rest) = in_brackets_if (stands_bracketed joint c) (printed_condition c) ++ printed_more joint rest

  -- members, each behind the word
  pub printed_more : Joint → Conditions → List ℕ
  printed_more joint NoConditions = []
  printed_more joint (CondThen c rest) = joining joint ++ (in_brackets_if (stands_bracketed joint c) (printed_condition c) ++ printed_more joint rest)

-- the printed form of a filter
abbrev pub printed : Way → List ℕ
printed = printed_steps
