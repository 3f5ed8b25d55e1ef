use Rattle.std.specs.Arc.{arc_value}
use Rattle.px_machine.proofs.Shelved.{grows-same, grows-kept}
use Rattle.px_machine.proofs.Numbered.{true-gifts-on}
use Rattle.px_machine.proofs.facts.Facts.list.Goals as goal

pub invariant_of-self : goal.invariant_of-self
invariant_of-self c = (
  c.self.invariant.0,
  c.self.invariant.1,
  true-gifts-on (arc_value c.self.inside.program).states c.self.inside.sets.lists c.self.inside.sets.lists c.self.inside.lists.lists c.keep.new.self.lists c.self.inside.gifts (grows-same c.self.inside.sets.lists)
      (grows-kept c.self.inside.lists.lists c.keep.new.self.lists c.args.numbers.now c.keep.ensures.only) c.self.invariant.2,
)
