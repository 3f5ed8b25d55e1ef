-- What has to hold at the last place of a path.
use Rattle.std.specs.Prelude.{Bool, true, ◌&&◌, List}
use Rattle.px_xpath.specs.declared.filter.Step.{Step}
use Rattle.px_xpath.specs.Meaning.{meets, all_hold, way_holds, compares}
use Rattle.px_xpath.specs.Views.{conditions, ways}
use Rattle.px_text.specs.Nodes.{Place, string_value}
use Rattle.px_meaning.specs.declared.paths.End.{End}
use Rattle.px_meaning.specs.declared.paths.End.TheVariants.{Always, Compared}

abbrev pub end_holds : End → Place → Bool
end_holds Always = λ x. true
end_holds (Compared relation value) = λ x. compares relation value.now (string_value x)

-- whether a place meets a step, and the rest of the path leads on from it
abbrev pub passes : Step → List Step → End → Place → Bool
passes step rest end x = meets step.test x && all_hold (conditions step.conds) x && way_holds (ways rest) (end_holds end) x
