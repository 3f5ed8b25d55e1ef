-- There are no more than 2^20 ids.
use Rattle.std.proofs.Common.{arith}
use Rattle.px_delta.proofs.Leaving.{few_listed}
use Rattle.px_delta.proofs.changed.count_changed.Goals as goal

pub overflow_add-count : goal.overflow_add-count
overflow_add-count c = let all = few_listed c.args.first.now c.requires.first in let few = c.loop-numbered.invariant.few in let within = c.loop-numbered-test.true in omega arith

pub returns-clause-few : goal.returns-clause-few
returns-clause-few c = let all = few_listed c.args.first.now c.requires.first in let few = c.loop-numbered.invariant.few in let within = c.loop-numbered.auto.numbered-index-end in omega arith
