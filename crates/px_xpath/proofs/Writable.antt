-- What a filter that a text writes keeps: all that its printed form needs to be read back.
use Rattle.std.proofs.Common.{◌≡◌, ℕ, ◌<◌, ◌^◌, true, false, List, ◌⊎◌, ◌==◌}
use Rattle.std.specs.Prelude.{unsigned_abs}
use Rattle.std.specs.List.{list_any}
use Rattle.px_text.specs.Names.{is_filter_name}
use Rattle.px_xpath.specs.declared.filter.Test.{Test}
use Rattle.px_xpath.specs.declared.filter.Test.TheVariants.{Element, AnyElement, Attribute}
use Rattle.px_xpath.specs.declared.filter.Relation.{Relation}
use Rattle.px_xpath.specs.declared.filter.Value.{Value}
use Rattle.px_xpath.specs.declared.filter.Value.TheVariants.{Number, Literal}
use Rattle.px_xpath.specs.Filters.{Way, Arrived, StepThen, Condition, Selects, Compares, EachOf, SomeOf, Fails, Conditions, NoConditions, CondThen}
use Rattle.px_xpath.specs.Grammar.{is_equality}

-- the name of a test is a name of a filter
abbrev pub IsGoodTest : Test → Type 0
IsGoodTest (Element name) = is_filter_name name ≡ true
IsGoodTest (Attribute name) = is_filter_name name ≡ true
IsGoodTest _ = Unit {0}

-- a step on attributes or texts is the last, and has no conditions
abbrev pub MayStand : Test → Conditions → Way → Type 0
MayStand (Element name) conds onward = Unit {0}
MayStand AnyElement conds onward = Unit {0}
MayStand _ conds onward = (conds ≡ NoConditions) × (onward ≡ Arrived)

-- one of the two quotes is not in the text
abbrev pub IsQuotable : List ℕ → Type 0
IsQuotable text = (list_any (λ b. b == 34) text ≡ false) ⊎ (list_any (λ b. b == 39) text ≡ false)

abbrev pub IsGoodValue : Relation → Value → Type 0
IsGoodValue r (Number units) = unsigned_abs units < 10 ^ 36
IsGoodValue r (Literal text) = (is_equality r ≡ true) × IsQuotable text

abbrev pub HasSteps : Way → Type 0
HasSteps Arrived = ⊥
HasSteps (StepThen axis t conds onward) = Unit {0}

abbrev pub HasOne : Conditions → Type 0
HasOne NoConditions = ⊥
HasOne (CondThen c cs) = Unit {0}

abbrev pub HasTwo : Conditions → Type 0
HasTwo NoConditions = ⊥
HasTwo (CondThen c cs) = HasOne cs

abbrev mutual
  pub IsWritable : Way → Type 0
  IsWritable Arrived = Unit {0}
  IsWritable (StepThen axis t conds onward) = IsGoodTest t × MayStand t conds onward × AreWritable conds × IsWritable onward

  pub CanBeWritten : Condition → Type 0
  CanBeWritten (Selects path) = HasSteps path × IsWritable path
  CanBeWritten (Compares path r v) = HasSteps path × IsWritable path × IsGoodValue r v
  CanBeWritten (EachOf cs) = HasTwo cs × AreWritable cs
  CanBeWritten (SomeOf cs) = HasTwo cs × AreWritable cs
  CanBeWritten (Fails c) = CanBeWritten c

  pub AreWritable : Conditions → Type 0
  AreWritable NoConditions = Unit {0}
  AreWritable (CondThen c cs) = CanBeWritten c × AreWritable cs
