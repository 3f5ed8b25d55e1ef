use Rattle.std.proofs.Common.{[], ◌∷◌, ◌++◌}
use Rattle.px_feed.specs.declared.line.OutLine.TheVariants.{Faulty}
use Rattle.px_lines.proofs.outgoing.Outgoing.refuse.Goals as goal
use Rattle.px_lines.proofs.Spoken.{cut_closes}

pub returns-clause-closes : goal.returns-clause-closes
returns-clause-closes g c = λ held lines s.
    cut_closes c.in-Err.status held (g.K.Sink.held c.say.new.sink) (lines ++ Faulty c.args.fault ∷ []) (c.in-Err.ensures.says held lines s).1
