-- An item, or the end of the run.
use Rattle.std.proofs.Common.{[], refl, subst}
use Rattle.px_feed.specs.declared.ending.Taken.{Taken}
use Rattle.px_feed.specs.Outputs.{lines_for}
use Rattle.px_feed.specs.declared.status.Status.TheVariants.{Memory}
use Rattle.px_lines.specs.Standing.{streams}
use Rattle.px_lines.proofs.FeedEnds.{cut_ended, ended_at_end, ended_at_fault, ended_at_read_fault}
use Rattle.px_lines.proofs.Spoken.{said_front}
use Rattle.px_serial.specs.Standing.{Took}
use Rattle.px_serial.proofs.FeedTaking.{took_item}
use Rattle.px_serial.proofs.serving.Serving.take_up.Goals as goal

pub returns-in-Item-clause-takes : goal.returns-in-Item-clause-takes
returns-in-Item-clause-takes g c = λ first left faults least t.
    let now = streams left (g.K.Sink.held c.args.sink.now) faults in
    let P : Taken → Type 0 = λ found. Took found c.args.self.now first now least in
    took_item c.in-Item.item c.args.self.now first now least (subst P c.in-Item.is t)

pub returns-in-End-clause-takes : goal.returns-in-End-clause-takes
returns-in-End-clause-takes g c = λ first left faults least t.
    let P : Taken → Type 0 = λ found. Took found c.args.self.now first (streams left (g.K.Sink.held c.args.sink.now) faults) least in
    let end = subst P c.in-End.is t in
    ended_at_end first left faults end.bytes end.given end.asks end.read end.asked (g.K.Sink.held c.finish.new.sink) c.finish.result end.answers
    (c.finish.ensures.closes first.held (lines_for [] end.asks) end.said)

pub returns-in-Fault-clause-takes : goal.returns-in-Fault-clause-takes
returns-in-Fault-clause-takes g c = λ first left faults least t.
    let P : Taken → Type 0 = λ found. Took found c.args.self.now first (streams left (g.K.Sink.held c.args.sink.now) faults) least in
    let end = subst P c.in-Fault.is t in
    ended_at_fault first left faults end.bytes end.given end.asks end.read end.asked c.in-Fault.fault (g.K.Sink.held c.refuse.new.sink) c.refuse.result end.answers
    (c.refuse.ensures.closes first.held (lines_for [] end.asks) end.said)

pub returns-in-ReadFault-clause-takes : goal.returns-in-ReadFault-clause-takes
returns-in-ReadFault-clause-takes g c = λ first left faults least t.
    let P : Taken → Type 0 = λ found. Took found c.args.self.now first (streams left (g.K.Sink.held c.args.sink.now) faults) least in
    let end = subst P c.in-ReadFault.is t in
    ended_at_read_fault first left faults end.bytes end.given end.asks end.read end.asked (g.K.Sink.held c.break_off.new.sink) c.break_off.result end.answers (end.failed refl) end.begun
    (c.break_off.ensures.breaks first.held (lines_for [] end.asks) end.said)

pub returns-in-Memory-clause-takes : goal.returns-in-Memory-clause-takes
returns-in-Memory-clause-takes g c = λ first left faults least t.
    let now = streams left (g.K.Sink.held c.args.sink.now) faults in
    let P : Taken → Type 0 = λ found. Took found c.args.self.now first now least in
    let end = subst P c.in-Memory.is t in
    cut_ended Memory first now (lines_for [] end.asks) end.begun (refl, said_front c.args.self.now.outgoing first.held now.held (lines_for [] end.asks) end.said)
