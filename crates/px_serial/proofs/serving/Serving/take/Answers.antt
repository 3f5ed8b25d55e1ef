-- What was read is taken first.
use Rattle.std.proofs.Common.{Some, ap, refl}
use Rattle.px_lines.specs.Standing.{streams}
use Rattle.px_serial.proofs.FeedTaking.{rest_taken, took_ready, rest_further}
use Rattle.px_serial.proofs.serving.Serving.take.Goals as goal

pub returns-in-Some-clause-takes : goal.returns-in-Some-clause-takes
returns-in-Some-clause-takes g c = λ first least r.
    let old = c.args.self.now in
    let new = record old { items = c.ready.new.self } in
    let left = g.S.Source.left c.args.source.now in
    let faults = g.S.Source.faults c.args.source.now in
    let now = streams left (g.K.Sink.held c.args.sink.now) faults in
    c.take_up.ensures.takes first left faults least
    (took_ready c.in-Some.found old new first now least r refl refl (c.in-Some.ensures.takes left r.bytes r.given (rest_taken old first now least r))
    (λ e. c.in-Some.ensures.failed (ap Some e)))

pub returns-in-None-clause-takes : goal.returns-in-None-clause-takes
returns-in-None-clause-takes g c = λ first least r.
    let old = c.args.self.now in
    let new = record old { items = c.ready.new.self } in
    let left = g.S.Source.left c.args.source.now in
    let now = streams left (g.K.Sink.held c.args.sink.now) (g.S.Source.faults c.args.source.now) in
    c.read_on.ensures.takes first least
    (rest_further old new first now least r refl refl (c.in-None.ensures.takes left r.bytes r.given (rest_taken old first now least r)))
