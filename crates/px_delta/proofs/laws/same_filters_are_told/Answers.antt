use Rattle.px_delta.proofs.Telling.{way_told}
use Rattle.px_delta.proofs.laws.same_filters_are_told.Goals as goal

pub returns : goal.returns
returns c = let e = c.equal_is_same.ensures in way_told (record { axes = e.axes; tests = e.tests; relations = e.relations; values = e.values })
