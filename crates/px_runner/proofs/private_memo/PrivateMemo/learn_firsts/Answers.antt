use Rattle.std.proofs.Common.{◌∙◌, ap}
use Rattle.std.specs.Arc.{arc_value}
use Rattle.px_afa.specs.Building.{Automata}
use Rattle.px_afa.specs.Sets.{first_set}
use Rattle.px_runner.proofs.Remembered.{firsts_on, firsts_learned, facts_on}
use Rattle.px_runner.proofs.private_memo.PrivateMemo.learn_firsts.Goals as goal

pub invariant_of-self : goal.invariant_of-self
invariant_of-self c = (
  firsts_on (arc_value c.self.inside.compiled) c.self.inside.sets c.keep.new.self c.self.inside.firsts c.keep.ensures.grows c.self.invariant.0,
  facts_on (arc_value c.self.inside.compiled).states c.self.inside.sets c.keep.new.self c.self.inside.facts c.keep.ensures.grows c.self.invariant.1,
)

pub invariant_of-self-2 : goal.invariant_of-self-2
invariant_of-self-2 c = (
  firsts_learned (arc_value c.self.inside.compiled) c.keep.new.self c.in_ok-firsts.firsts c.in_ok-set.set c.number_of-self-inside.result c.number_of-self-inside.ensures.number
      (c.in_ok-set.ensures.cases ∙ (c.firsts.ensures.firsts ∙ ap (λ (a : Automata). first_set a.firsts) c.deref.ensures)) c.in_ok-firsts.ensures.stands,
  facts_on (arc_value c.self.inside.compiled).states c.self.inside.sets c.keep.new.self c.self.inside.facts c.keep.ensures.grows c.self.invariant.1,
)
