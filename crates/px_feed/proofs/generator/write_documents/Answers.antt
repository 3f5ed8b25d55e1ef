-- One document more, and the drop before it.
use Rattle.px_feed.proofs.Generating.{documents_on}
use Rattle.std.proofs.Common.{◌∙◌}
use Rattle.px_feed.proofs.generator.write_documents.Goals as goal

pub loop-before-preserved : goal.loop-before-preserved
loop-before-preserved c =
    documents_on _ _ _ _ _ _ _ _ c.loop-before-test.true c.in_ok-write_drop.ensures c.in_ok-write_document.ensures.text c.in_ok-write_document.ensures.state
    ∙ c.loop-before.invariant
