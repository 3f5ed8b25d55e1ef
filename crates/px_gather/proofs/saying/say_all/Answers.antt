-- The run is cut short at one of the lines.
use Rattle.std.proofs.Common.{◌++◌, take}
use Rattle.px_gather.proofs.Fronts.{cut_at}
use Rattle.px_gather.proofs.saying.say_all.Goals as goal

pub returns-in-Err-clause-says : goal.returns-in-Err-clause-says
returns-in-Err-clause-says g c = λ held before said.
    let lines = c.args.lines.now in
    let at = c.loop-line.line-index in
    let cut = (c.in-Err.ensures {u = tt}).says held (before ++ take at lines) (c.loop-line.invariant.said held before said) in
    (tt, cut_at c.in-Err.status held (g.K.Sink.held c.say.new.sink) before lines at c.line-item.result c.loop-line-test.true c.line-item.is cut.1)
