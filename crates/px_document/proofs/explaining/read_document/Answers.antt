-- The document is all that is left in the source.
use Rattle.px_document.proofs.Coming.{comes_none}
use Rattle.px_document.proofs.explaining.read_document.Goals as goal

pub returns-clause-tree : goal.returns-clause-tree
returns-clause-tree g c = c.read_tree.ensures.tree _ (comes_none (g.S.Source.left c.args.source.now) c.in_ok-document.document c.in_ok-document.ensures)

pub returns-clause-fault : goal.returns-clause-fault
returns-clause-fault g c = λ fault e. c.read_tree.ensures.fault _ fault (comes_none (g.S.Source.left c.args.source.now) c.in_ok-document.document c.in_ok-document.ensures) e

pub returns-clause-not_at_fault : goal.returns-clause-not_at_fault
returns-clause-not_at_fault g c = λ e. c.read_tree.ensures.not_at_fault _ (comes_none (g.S.Source.left c.args.source.now) c.in_ok-document.document c.in_ok-document.ensures) e
