-- What waits is written, and then the next item is taken.
use Rattle.std.proofs.Common.{[], refl}
use Rattle.px_feed.specs.Outputs.{lines_for}
use Rattle.px_lines.specs.Standing.{streams}
use Rattle.px_lines.proofs.FeedStands.{stands_cut}
use Rattle.px_serial.proofs.FeedTaking.{rest_taken, took_next}
use Rattle.px_serial.proofs.serving.Serving.read_on.Goals as goal

pub returns-in-Ok-clause-takes : goal.returns-in-Ok-clause-takes
returns-in-Ok-clause-takes g c = λ first least r.
    let old = c.args.self.now in
    let new = record old { items = c.next-found.new.self; outgoing = c.write.new.self } in
    let left = g.S.Source.left c.next-found.new.source in
    let faults = g.S.Source.faults c.next-found.new.source in
    let before = streams (g.S.Source.left c.args.source.now) (g.K.Sink.held c.args.sink.now) (g.S.Source.faults c.args.source.now) in
    let now = streams left (g.K.Sink.held c.write.new.sink) faults in
    let written = (c.in-Ok.ensures {u = tt}).rest first.held (lines_for [] r.asks) r.said in
    let by = c.next-found.ensures.takes r.bytes r.given (rest_taken old first before least r) in
    c.take_up.ensures.takes first left faults least
    (took_next c.next-found.result old new first before now least r refl written.0 by c.next-found.ensures.never_falls c.next-found.ensures.failed)

pub returns-in-Err-clause-takes : goal.returns-in-Err-clause-takes
returns-in-Err-clause-takes g c = λ first least r.
    let old = c.args.self.now in
    let left = g.S.Source.left c.args.source.now in
    let faults = g.S.Source.faults c.args.source.now in
    let written = (c.in-Err.ensures {u = tt}).rest first.held (lines_for [] r.asks) r.said in
    stands_cut old.items old.journal.changes old.outgoing first (streams left (g.K.Sink.held c.args.sink.now) faults) (streams left (g.K.Sink.held c.write.new.sink) faults) []
    least c.in-Err.status r written.2
