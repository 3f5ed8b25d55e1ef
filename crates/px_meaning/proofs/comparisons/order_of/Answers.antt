use Rattle.std.proofs.Common.{[]}
use Rattle.px_meaning.proofs.comparisons.order_of.Goals as goal

pub returns : goal.returns
returns c = c.cmp.ensures _ (c.take_place.ensures [] c.start-scan.ensures)
