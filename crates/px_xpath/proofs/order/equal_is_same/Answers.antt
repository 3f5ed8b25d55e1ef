use Rattle.std.proofs.Common.{refl}
use Rattle.px_xpath.specs.declared.filter.Test.TheVariants.{Element, AnyElement, Attribute, AnyAttribute, Text}
use Rattle.px_xpath.specs.declared.filter.Value.TheVariants.{Number, Literal}
use Rattle.px_xpath.proofs.Ties.{elements_tied, attributes_tied, literals_tied, values_tied}
use Rattle.px_xpath.proofs.order.equal_is_same.Goals as goal

pub returns-clause-tied_tests : goal.returns-clause-tied_tests
returns-clause-tied_tests c (Element a) (Element b) = elements_tied a b
returns-clause-tied_tests c AnyElement AnyElement = (λ e. refl, λ e. refl)
returns-clause-tied_tests c (Attribute a) (Attribute b) = attributes_tied a b
returns-clause-tied_tests c AnyAttribute AnyAttribute = (λ e. refl, λ e. refl)
returns-clause-tied_tests c Text Text = (λ e. refl, λ e. refl)
returns-clause-tied_tests c _ _ = (λ e. absurd (cc), λ e. absurd (cc))

pub returns-clause-tied_values : goal.returns-clause-tied_values
returns-clause-tied_values c (Number a) (Number b) = values_tied a b
returns-clause-tied_values c (Literal a) (Literal b) = literals_tied a b
returns-clause-tied_values c _ _ = (λ e. absurd (cc), λ e. absurd (cc))
