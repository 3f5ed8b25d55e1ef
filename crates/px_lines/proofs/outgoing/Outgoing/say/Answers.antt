use Rattle.std.proofs.Common.{[], ◌∷◌, ◌++◌}
use Rattle.px_lines.proofs.outgoing.Outgoing.say.Goals as goal

pub returns-clause-says : goal.returns-clause-says
returns-clause-says g c = λ held lines s.
    let more = (c.in_ok-take.ensures.says (g.K.Sink.held c.args.sink.now) held lines s).0 in
    let written = c.write.ensures.rest held (lines ++ c.args.line.now ∷ []) more in (written.0, written.2)
