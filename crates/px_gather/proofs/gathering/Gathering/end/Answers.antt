-- The run ends as the feed has.
use Rattle.std.proofs.Common.{Some, [], subst}
use Rattle.px_feed.specs.declared.ending.Taken.{Taken}
use Rattle.px_feed.specs.Outputs.{lines_for}
use Rattle.px_lines.specs.Standing.{streams}
use Rattle.px_gather.specs.Waiting.{Waits}
use Rattle.px_gather.proofs.Ending.{ends_at_end, ends_at_fault, ends_at_read_fault, ends_memory}
use Rattle.px_gather.proofs.gathering.Gathering.end.Goals as goal

pub returns-in-End-clause-ends : goal.returns-in-End-clause-ends
returns-in-End-clause-ends g c = λ asks first left faults least none t.
    let run = c.args.self.now in
    let held = g.K.Sink.held c.args.sink.now in
    let P : Taken → Type 0 = λ found. Waits (Some found) run asks first (streams left held faults) least in
    let w = subst P c.in-End.is t in
    ends_at_end run asks first left held (g.K.Sink.held c.finish.new.sink) faults least c.finish.result none w (c.finish.ensures.closes first.held (lines_for [] asks) w.said)

pub returns-in-Fault-clause-ends : goal.returns-in-Fault-clause-ends
returns-in-Fault-clause-ends g c = λ asks first left faults least none t.
    let run = c.args.self.now in
    let held = g.K.Sink.held c.args.sink.now in
    let P : Taken → Type 0 = λ found. Waits (Some found) run asks first (streams left held faults) least in
    let w = subst P c.in-Fault.is t in
    ends_at_fault run asks first left held (g.K.Sink.held c.refuse.new.sink) faults least c.refuse.result none c.in-Fault.fault w
    (c.refuse.ensures.closes first.held (lines_for [] asks) w.said)

pub returns-in-ReadFault-clause-ends : goal.returns-in-ReadFault-clause-ends
returns-in-ReadFault-clause-ends g c = λ asks first left faults least none t.
    let run = c.args.self.now in
    let held = g.K.Sink.held c.args.sink.now in
    let P : Taken → Type 0 = λ found. Waits (Some found) run asks first (streams left held faults) least in
    let w = subst P c.in-ReadFault.is t in
    ends_at_read_fault run asks first left held (g.K.Sink.held c.break_off.new.sink) faults least c.break_off.result none w
    (c.break_off.ensures.breaks first.held (lines_for [] asks) w.said)

pub returns-in-Memory-clause-ends : goal.returns-in-Memory-clause-ends
returns-in-Memory-clause-ends g c = λ asks first left faults least none t.
    let run = c.args.self.now in
    let now = streams left (g.K.Sink.held c.args.sink.now) faults in
    let P : Taken → Type 0 = λ found. Waits (Some found) run asks first now least in
    ends_memory run asks first now least (subst P c.in-Memory.is t)
