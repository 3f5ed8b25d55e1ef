-- The events are those of the tree, and not too many.
use Rattle.px_reader.specs.Scanning.{state_in}
use Rattle.px_reader.proofs.Recording.{tree_events, few_events}
use Rattle.px_reader.proofs.recorder.Recorder.take.Goals as goal

pub doc_of-doc-requires-clause-events : goal.doc_of-doc-requires-clause-events
doc_of-doc-requires-clause-events c = let old = c.self.inside in tree_events old.bytes.items (state_in old.bytes.items old.scanner) old.events c.self.invariant.records.judged

pub doc_of-doc-requires-clause-few : goal.doc_of-doc-requires-clause-few
doc_of-doc-requires-clause-few c = let old = c.self.inside in few_events old.scanner old.bytes.items old.events c.self.invariant.records
