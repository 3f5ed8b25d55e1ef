-- A document by its parts.
use Rattle.px_feed.proofs.Generating.{document_is}
use Rattle.px_feed.proofs.generator.write_document.Goals as goal

pub returns-clause-text : goal.returns-clause-text
returns-clause-text c =
    document_is _ _ _ _ _ _ c.in_ok-extend_from_slice.ensures.items c.in_ok-write_groups.ensures.text c.extend_from_slice-2.ensures.items
