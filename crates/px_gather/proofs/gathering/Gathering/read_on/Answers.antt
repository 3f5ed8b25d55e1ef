-- What waits is written, and then the next item is taken.
use Rattle.std.proofs.Common.{None, [], refl, ◌++◌}
use Rattle.px_feed.specs.Outputs.{lines_for}
use Rattle.px_lines.specs.Standing.{streams}
use Rattle.px_gather.proofs.Taking.{took_next, waits_cut}
use Rattle.px_gather.proofs.gathering.Gathering.read_on.Goals as goal

pub returns-in-Ok-clause-takes : goal.returns-in-Ok-clause-takes
returns-in-Ok-clause-takes g c = λ asks first least w.
    let old = c.args.self.now in
    let new = record old { items = c.next.new.self; outgoing = c.write.new.self } in
    let before = streams (g.S.Source.left c.args.source.now) (g.K.Sink.held c.args.sink.now) (g.S.Source.faults c.args.source.now) in
    let now = streams (g.S.Source.left c.next.new.source) (g.K.Sink.held c.write.new.sink) (g.S.Source.faults c.next.new.source) in
    let written = (c.in-Ok.ensures {u = tt}).rest first.held (lines_for [] asks) w.said in
    took_next c.next.result old new asks first before now least w refl written.0 (c.next.ensures.takes w.bytes (w.given ++ w.shown) w.gave)
    c.next.ensures.never_falls c.next.ensures.failed

pub returns-in-Err-clause-takes : goal.returns-in-Err-clause-takes
returns-in-Err-clause-takes g c = λ asks first least w.
    let left = g.S.Source.left c.args.source.now in
    let faults = g.S.Source.faults c.args.source.now in
    let written = (c.in-Err.ensures {u = tt}).rest first.held (lines_for [] asks) w.said in
    waits_cut None c.args.self.now asks first (streams left (g.K.Sink.held c.args.sink.now) faults) (streams left (g.K.Sink.held c.write.new.sink) faults)
    least w c.in-Err.status written.2
