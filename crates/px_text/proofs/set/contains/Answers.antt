use Rattle.std.proofs.Common.{◌∙◌}
use Rattle.px_text.proofs.RisingLists.{found-has}
use Rattle.px_text.proofs.set.contains.Goals as goal

pub returns : goal.returns
returns c = c.is_ok.ensures.value ∙ found-has _ _ c.requires _ c.binary_search.ensures.position
