-- There are no more than 2^20 ids.
use Rattle.std.proofs.Common.{arith}
use Rattle.px_delta.proofs.Leaving.{few_listed}
use Rattle.px_delta.proofs.changes.count_of.Goals as goal

pub overflow_cast-result : goal.overflow_cast-result
overflow_cast-result c = let few = few_listed c.args.pairs.now c.requires.order in omega arith
