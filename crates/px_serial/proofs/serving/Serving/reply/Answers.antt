-- The line is said, and then the next item is taken.
use Rattle.std.proofs.Common.{◌+◌}
use Rattle.px_serial.proofs.serving.Serving.reply.Goals as goal

pub returns-in-Ok-clause-replies : goal.returns-in-Ok-clause-replies
returns-in-Ok-clause-replies g c = λ first least h.
    let said = (c.in-Ok.ensures {u = tt}).says first (g.S.Source.left c.args.source.now) (g.S.Source.faults c.args.source.now) least h in
    c.take.ensures.takes first (least + 1) said.0

pub returns-in-Err-clause-replies : goal.returns-in-Err-clause-replies
returns-in-Err-clause-replies g c = λ first least h.
    let said = (c.in-Err.ensures {u = tt}).says first (g.S.Source.left c.args.source.now) (g.S.Source.faults c.args.source.now) least h in
    said.1
