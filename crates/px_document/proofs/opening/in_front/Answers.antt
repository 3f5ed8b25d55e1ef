-- The whole proof is finished.
use Rattle.px_document.proofs.Opened.{opens_document}
use Rattle.px_document.proofs.opening.in_front.Goals as goal

pub returns : goal.returns
returns c = λ left now p. opens_document left now c.args.proof c.args.document c.finish.result c.finish.ensures p
