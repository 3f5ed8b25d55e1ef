use Rattle.px_lines.proofs.outgoing.Outgoing.break_off.Goals as goal
use Rattle.px_lines.proofs.Spoken.{cut_breaks}

pub returns-in-Err-clause-breaks : goal.returns-in-Err-clause-breaks
returns-in-Err-clause-breaks g c = λ held lines s.
    cut_breaks c.in-Err.status held (g.K.Sink.held c.write.new.sink) lines (c.in-Err.ensures.rest held lines s).2
