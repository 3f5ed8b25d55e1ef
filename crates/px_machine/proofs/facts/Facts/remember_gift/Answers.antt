use Rattle.std.proofs.Common.{sym, subst}
use Rattle.std.specs.Arc.{arc_value}
use Rattle.px_machine.specs.Facts.{Known, IsListGift}
use Rattle.px_machine.proofs.Numbered.{true-gifts-more}
use Rattle.px_machine.proofs.facts.Facts.remember_gift.Goals as goal

pub invariant_of-self : goal.invariant_of-self
invariant_of-self c = (
  c.self.invariant.0,
  c.self.invariant.1,
  true-gifts-more (arc_value c.self.inside.program).states c.self.inside.sets.lists c.self.inside.lists.lists c.self.inside.gifts c.tell.new.self c.args.list c.args.label c.args.n c.self.invariant.2
      (subst (λ (k : Known). IsListGift k.automata.states k.sets k.lists c.args.list c.args.label c.args.n) (sym c.self.view_is) c.requires.gift) c.tell.ensures.only,
)
