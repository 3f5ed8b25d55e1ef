-- The line of the sums is written, or a front of it.
use Rattle.px_parallel.proofs.Loaded.{loaded, load_front}
use Rattle.px_parallel.proofs.loading.load.Goals as goal

pub returns-in-Ok-clause-output : goal.returns-in-Ok-clause-output
returns-in-Ok-clause-output g c = λ t.
    let written = c.write_sums.ensures.output t in
    loaded c.args.load c.in-Ok.sums c.in-Ok.ensures (g.K.Sink.held c.args.sink.now) (g.K.Sink.held c.write_sums.new.sink) c.write_sums.result written.0 written.1

pub returns-in-Ok-clause-front : goal.returns-in-Ok-clause-front
returns-in-Ok-clause-front g c = λ t.
    load_front c.args.load c.in-Ok.sums c.in-Ok.ensures (g.K.Sink.held c.args.sink.now) (g.K.Sink.held c.write_sums.new.sink) (c.write_sums.ensures.front t)
