use Rattle.std.proofs.Common.{List, ℕ, arith, ap, sym, subst}
use Rattle.px_reader.specs.Documents.{content}
use Rattle.px_hub.proofs.Refusing.{replies}
use Rattle.px_hub.proofs.hub.Hub.filter_read.Goals as goal

pub filter_events-requires : goal.filter_events-requires
filter_events-requires g c =
    let t = c.events.ensures.tree in
    let few = c.events.ensures.few in
    record { closed = c.requires; few = omega arith; tree = (t.root, t.events_are) }

pub returns-in-Ok : goal.returns-in-Ok
returns-in-Ok g c = replies g.N.HubName.table.shape c.args.pass.now c.filter_events.new.pass c.args.doc.now c.events.result.now c.in-Ok.reply c.events.ensures.tree c.in-Ok.ensures.reply

pub returns-in-Err : goal.returns-in-Err
returns-in-Err g c = c.in-Err.ensures.memory
