use Rattle.px_post.proofs.Folding.{a_document_more}
use Rattle.px_post.proofs.laws.a_document_adds_its_letters.Goals as goal

pub returns : goal.returns
returns c f b ds d = a_document_more f b ds d
