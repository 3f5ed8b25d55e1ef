-- The bytes spell a tree, and the list has its events.
use Rattle.std.proofs.Common.{ℕ, List, subst}
use Rattle.px_reader.specs.Verdicts.{AreEvents}
use Rattle.px_reader.proofs.Telling.{told_events}
use Rattle.px_reader.proofs.doc.Doc.events.Goals as goal

pub returns-clause-tree : goal.returns-clause-tree
returns-clause-tree c =
    let doc = c.self.inside in
    let P : List ℕ → Type 0 = λ bytes. AreEvents bytes doc.events in
    subst P c.self.view_is (told_events doc.bytes doc.events c.self.invariant.spelt c.self.invariant.told)
