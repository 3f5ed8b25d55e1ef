-- The events are those of the tree, and not too many.
use Rattle.px_reader.specs.Scanning.{state_in}
use Rattle.px_reader.proofs.Recording.{tree_events, few_events}
use Rattle.px_reader.proofs.recorder.Recorder.end_with.Goals as goal

pub doc_of-doc-requires-clause-events : goal.doc_of-doc-requires-clause-events
doc_of-doc-requires-clause-events c = let new = c.close.new in tree_events new.bytes.items (state_in new.bytes.items new.scanner) new.events c.in-Ok.ensures.records.judged

pub doc_of-doc-requires-clause-few : goal.doc_of-doc-requires-clause-few
doc_of-doc-requires-clause-few c = let new = c.close.new in few_events new.scanner new.bytes.items new.events c.in-Ok.ensures.records
