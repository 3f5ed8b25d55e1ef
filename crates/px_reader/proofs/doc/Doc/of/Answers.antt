-- What was read to its end spells a tree.
use Rattle.std.proofs.Common.{subst}
use Rattle.px_reader.specs.Verdicts.{SpellsTree, AreTreeEvents}
use Rattle.px_reader.proofs.doc.Doc.of.Goals as goal

pub invariant_of-result : goal.invariant_of-result
invariant_of-result c = record {
  spelt = subst (λ bytes. SpellsTree bytes) c.as_slice.ensures.same c.in_ok-events.ensures.spelt;
  told = subst (λ bytes. AreTreeEvents bytes c.in_ok-events.events) c.as_slice.ensures.same c.in_ok-events.ensures.events;
  few = c.in_ok-events.ensures.few;
}
