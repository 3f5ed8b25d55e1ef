-- Printed forms, worked out.
use Rattle.std.specs.Prelude.{◌≡◌, List, ℕ, negsuc, ◌-◌, ◌*◌, ◌^◌, codes, refl}
use Rattle.px_xpath.specs.declared.filter.Axis.TheVariants.{Child, Below}
use Rattle.px_xpath.specs.declared.filter.Test.TheVariants as test
use Rattle.px_xpath.specs.declared.filter.Relation.TheVariants as relation
use Rattle.px_xpath.specs.declared.filter.Value.TheVariants.{Number, Literal}
use Rattle.px_xpath.specs.Filters.{Arrived, StepThen, Condition, Selects, Compares, EachOf, SomeOf, Fails, NoConditions, CondThen}
use Rattle.px_xpath.specs.Printed.{printed}

abbrev pub child_alone : List ℕ → Condition
child_alone name = Selects (StepThen Child (test.Element name) NoConditions Arrived)

pub printed_or_in_and : printed
    (StepThen Child (test.Element (codes "a"))
    (CondThen
    (EachOf (CondThen (child_alone (codes "b")) (CondThen (SomeOf (CondThen (child_alone (codes "c")) (CondThen (child_alone (codes "d")) NoConditions))) NoConditions)))
    NoConditions) (StepThen Child test.Text NoConditions Arrived))
    ≡ codes "/a[b and (c or d)]/text()"
printed_or_in_and = refl

pub printed_path_in_or : printed
    (StepThen Child (test.Element (codes "a"))
    (CondThen
    (SomeOf (CondThen
    (Compares (StepThen Below (test.Element (codes "b")) NoConditions (StepThen Child (test.Attribute (codes "c")) NoConditions Arrived)) relation.Equal (Literal (codes "x")))
    (CondThen
    (Fails (Compares (StepThen Child test.Text NoConditions Arrived) relation.Less (Number (negsuc (5 * 10 ^ 17 - 1)))))
    NoConditions))) NoConditions) Arrived)
    ≡ codes "/a[.//b/@c=\"x\" or not(text()<-0.5)]"
unfolding Rattle.px_text.specs.Printing.fraction_text
printed_path_in_or = refl

pub printed_comparison : printed
    (StepThen Child (test.Element (codes "a"))
    (CondThen
    (Compares (StepThen Child (test.Element (codes "b"))
    (CondThen (Selects (StepThen Child (test.Attribute (codes "k")) NoConditions Arrived)) NoConditions) Arrived) relation.Equal (Literal (codes "x")))
    NoConditions) Arrived)
    ≡ codes "/a[b[@k]=\"x\"]"
printed_comparison = refl
