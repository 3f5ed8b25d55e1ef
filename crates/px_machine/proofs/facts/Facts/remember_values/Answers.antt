use Rattle.std.proofs.Common.{sym, subst}
use Rattle.std.specs.Arc.{arc_value}
use Rattle.px_machine.specs.Facts.{Known, AreValues}
use Rattle.px_machine.proofs.Numbered.{true-values-more}
use Rattle.px_machine.proofs.facts.Facts.remember_values.Goals as goal

pub invariant_of-self : goal.invariant_of-self
invariant_of-self c = (
  true-values-more (arc_value c.self.inside.program).states c.self.inside.sets.lists c.self.inside.values c.tell.new.self c.args.text c.args.number c.args.n c.self.invariant.0
      (subst (λ (k : Known). AreValues k.automata.states k.sets c.args.text c.args.number c.args.n) (sym c.self.view_is) c.requires.values) c.tell.ensures.only,
  c.self.invariant.1,
  c.self.invariant.2,
)
