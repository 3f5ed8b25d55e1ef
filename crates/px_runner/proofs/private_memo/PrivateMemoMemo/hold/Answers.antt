use Rattle.std.specs.Arc.{arc_value}
use Rattle.px_runner.proofs.Remembered.{firsts_on, facts_on}
use Rattle.px_runner.proofs.private_memo.PrivateMemoMemo.hold.Goals as goal

pub invariant_of-self-in-None : goal.invariant_of-self-in-None
invariant_of-self-in-None c = (
  firsts_on (arc_value c.self.inside.compiled) c.self.inside.sets c.add.new.self c.self.inside.firsts c.add.ensures.grows c.self.invariant.0,
  facts_on (arc_value c.self.inside.compiled).states c.self.inside.sets c.add.new.self c.self.inside.facts c.add.ensures.grows c.self.invariant.1,
)
