use Rattle.std.proofs.Common.{sym}
use Rattle.px_meaning.proofs.Texts.{differs}
use Rattle.px_meaning.proofs.comparisons.texts_read.Goals as goal

pub returns-in-None : goal.returns-in-None
returns-in-None c = sym (differs _ _ c.in-None.ensures)
