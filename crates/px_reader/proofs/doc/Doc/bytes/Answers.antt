-- A document spells a tree.
use Rattle.std.proofs.Common.{sym, subst}
use Rattle.px_reader.specs.Verdicts.{SpellsTree}
use Rattle.px_reader.proofs.doc.Doc.bytes.Goals as goal

pub returns-clause-spelt : goal.returns-clause-spelt
returns-clause-spelt c = subst (λ bytes. SpellsTree bytes) (sym c.as_slice.ensures.same) c.self.invariant.spelt
