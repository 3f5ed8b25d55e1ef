-- The line is said, if there is one.
use Rattle.px_lines.specs.Standing.{streams}
use Rattle.px_serial.proofs.FeedLines.{says_line, line_memory}
use Rattle.px_serial.proofs.serving.Serving.say.Goals as goal

pub returns-in-Ok-clause-says : goal.returns-in-Ok-clause-says
returns-in-Ok-clause-says g c = λ first left faults least h.
    says_line c.args.line c.in-Ok.line c.say.result c.args.self.now c.say.new.self first left (g.K.Sink.held c.args.sink.now) (g.K.Sink.held c.say.new.sink) faults least
    c.in-Ok.is c.say.ensures.says h

pub returns-in-Err-clause-says : goal.returns-in-Err-clause-says
returns-in-Err-clause-says g c = λ first left faults least h.
    (tt, line_memory c.args.line c.in-Err.field-0 c.args.self.now first (streams left (g.K.Sink.held c.args.sink.now) faults) least c.in-Err.is h)
