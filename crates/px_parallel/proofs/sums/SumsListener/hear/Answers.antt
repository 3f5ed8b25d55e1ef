-- A line more is taken in, and at the end all are.
use Rattle.std.proofs.Common.{◌++◌, take}
use Rattle.px_parallel.proofs.Summing.{all_taken, taken_behind}
use Rattle.px_parallel.proofs.sums.SumsListener.hear.Goals as goal

pub loop-line-preserved : goal.loop-line-preserved
loop-line-preserved c = record {
  heard = λ before are. taken_behind before c.args.lines.now c.loop-line.line-index c.line-item.result c.take.new.self c.loop-line-test.true c.line-item.is
      (c.in_ok-take.ensures (before ++ take c.loop-line.line-index c.args.lines.now) (c.loop-line.invariant.heard before are));
}

pub returns : goal.returns
returns c = λ before are. all_taken before c.args.lines.now c.loop-line.line-index c.loop-line.self c.loop-line-test.false (c.loop-line.invariant.heard before are)
