use Rattle.std.proofs.Common.{arith}
use Rattle.px_prune.proofs.Pushed.{push-has}
use Rattle.px_prune.proofs.pushing.gathered.Goals as goal

pub returns : goal.returns
returns c = record {
  members = λ k. push-has c.args.compiled.now.states c.args.label c.args.need.now c.as_slice-p-items.result.now c.loop-p.inside.items c.loop-p.p-index k c.as_slice-p-items.ensures.same (omega arith) (c.loop-p.invariant k);
}
