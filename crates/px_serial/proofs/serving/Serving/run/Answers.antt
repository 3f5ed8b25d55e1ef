-- The first item is taken, and then all are answered.
use Rattle.std.proofs.Common.{ap}
use Rattle.px_lines.specs.Standing.{streams}
use Rattle.px_serial.proofs.Noting.{still_up}
use Rattle.px_serial.proofs.serving.Serving.run.Goals as goal

pub serve_all-requires : goal.serve_all-requires
serve_all-requires g c =
    let first = streams (g.S.Source.left c.args.source.now) (g.K.Sink.held c.args.sink.now) (g.S.Source.faults c.args.source.now) in
    record {
      held = (first, c.in-Ok.ensures.takes first 0 (c.requires.begun first));
      keeps_up = still_up c.args.self.now c.take.new.self (ap (λ j. j.changes) c.take.ensures.journal) c.take.ensures.tiers c.requires.keeps_up;
    }

pub returns-in-Ok-clause-ended : goal.returns-in-Ok-clause-ended
returns-in-Ok-clause-ended g c =
    let first = streams (g.S.Source.left c.args.source.now) (g.K.Sink.held c.args.sink.now) (g.S.Source.faults c.args.source.now) in
    c.serve_all.ensures.ended first (c.in-Ok.ensures.takes first 0 (c.requires.begun first))

pub returns-in-Err-clause-ended : goal.returns-in-Err-clause-ended
returns-in-Err-clause-ended g c =
    let first = streams (g.S.Source.left c.args.source.now) (g.K.Sink.held c.args.sink.now) (g.S.Source.faults c.args.source.now) in
    c.in-Err.ensures.takes first 0 (c.requires.begun first)
