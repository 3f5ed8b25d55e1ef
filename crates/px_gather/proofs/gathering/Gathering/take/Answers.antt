-- What was read is taken first.
use Rattle.std.proofs.Common.{Some, ap, refl, ◌++◌}
use Rattle.px_lines.specs.Standing.{streams}
use Rattle.px_gather.proofs.Taking.{took_ready, rest_further}
use Rattle.px_gather.proofs.gathering.Gathering.take.Goals as goal

pub returns-in-Some-clause-takes : goal.returns-in-Some-clause-takes
returns-in-Some-clause-takes g c = λ asks first least w.
    let old = c.args.self.now in
    let new = record old { items = c.ready.new.self } in
    let left = g.S.Source.left c.args.source.now in
    let now = streams left (g.K.Sink.held c.args.sink.now) (g.S.Source.faults c.args.source.now) in
    took_ready c.in-Some.found old new asks first now least w refl refl (c.in-Some.ensures.takes left w.bytes (w.given ++ w.shown) w.gave)
    (λ e. c.in-Some.ensures.failed (ap Some e))

pub returns-in-None-clause-takes : goal.returns-in-None-clause-takes
returns-in-None-clause-takes g c = λ asks first least w.
    let old = c.args.self.now in
    let new = record old { items = c.ready.new.self } in
    let left = g.S.Source.left c.args.source.now in
    let now = streams left (g.K.Sink.held c.args.sink.now) (g.S.Source.faults c.args.source.now) in
    c.read_on.ensures.takes asks first least
    (rest_further old new asks first now least w refl refl (c.in-None.ensures.takes left w.bytes (w.given ++ w.shown) w.gave))
