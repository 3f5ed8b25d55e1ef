use Rattle.px_lines.proofs.outgoing.Outgoing.finish.Goals as goal
use Rattle.px_lines.proofs.Spoken.{cut_closes}

pub returns-in-Err-clause-closes : goal.returns-in-Err-clause-closes
returns-in-Err-clause-closes g c = λ held lines s.
    cut_closes c.in-Err.status held (g.K.Sink.held c.write.new.sink) lines (c.in-Err.ensures.rest held lines s).2
