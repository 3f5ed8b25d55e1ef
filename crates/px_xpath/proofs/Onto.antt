-- Lists of conditions and of steps that grow at their end.
use Rattle.std.proofs.Common.{◌≡◌, List, [], ◌∷◌, ◌++◌, length, refl, ap, sym, arith}
use Rattle.px_xpath.specs.declared.filter.Cond.{Cond}
use Rattle.px_xpath.specs.declared.filter.Step.{Step}
use Rattle.px_xpath.specs.Filters.{Way, StepThen, EachOf, SomeOf, Conditions, CondThen}
use Rattle.px_xpath.specs.Views.{condition, conditions}
use Rattle.px_xpath.specs.Reads.{conditions_onto, ways_onto, each_of, some_of}

pub conditions_grow : (done : List Cond) (c : Cond) (more : Conditions) → conditions_onto (done ++ c ∷ []) more ≡ conditions_onto done (CondThen (condition c) more)
conditions_grow [] c more = refl
conditions_grow (d ∷ done) c more = ap (CondThen (condition d)) (conditions_grow done c more)

pub ways_grow : (done : List Step) (s : Step) (onward : Way) → ways_onto (done ++ s ∷ []) onward ≡ ways_onto done (StepThen s.axis s.test (conditions s.conds) onward)
ways_grow [] s onward = refl
ways_grow (d ∷ done) s onward = ap (StepThen d.axis d.test (conditions d.conds)) (ways_grow done s onward)

pub several_each : (members : List Cond) → ¬ (length members ≡ 1) → EachOf (conditions members) ≡ each_of (conditions members)
several_each [] n = refl
several_each (c ∷ []) n = absurd (n refl)
several_each (c ∷ d ∷ members) n = refl

pub several_some : (members : List Cond) → ¬ (length members ≡ 1) → SomeOf (conditions members) ≡ some_of (conditions members)
several_some [] n = refl
several_some (c ∷ []) n = absurd (n refl)
several_some (c ∷ d ∷ members) n = refl
