-- The events are those of the tree that the document's bytes spell.
use Rattle.std.proofs.Common.{sym}
use Rattle.px_workload.specs.Changes.{history}
use Rattle.px_serial.proofs.Matching.{doc_ids}
use Rattle.px_serial.proofs.filtering.ids_on.Goals as goal

pub matches-requires : goal.matches-requires
matches-requires c = let tree = c.events.ensures.tree in record { stand = c.requires.stand; whole = (tree.root, sym tree.events_are) }

pub returns-clause-ids : goal.returns-clause-ids
returns-clause-ids c = doc_ids c.args.doc.now c.events.result.now (history c.args.journal.now.changes) c.matches.result c.events.ensures.tree c.matches.ensures.ids
