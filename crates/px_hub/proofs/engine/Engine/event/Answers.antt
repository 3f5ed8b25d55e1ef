use Rattle.px_hub.proofs.Opening.{shared_ok}
use Rattle.px_reader.specs.Happenings.{event_of}
use Rattle.px_hub.proofs.engine.Engine.event.Goals as goal

pub returns-in-Shared-clause-ok : goal.returns-in-Shared-clause-ok
returns-in-Shared-clause-ok c =
    let e = c.event-in-Shared.ensures in
    shared_ok c.event-in-Shared.result c.args.self.now c.in-Shared.call c.event-in-Shared.new.self c.args.seat.now c.event-in-Shared.new.seat c.args.compiled.now (event_of c.args.next) c.in-Shared.is e.began e.ok
