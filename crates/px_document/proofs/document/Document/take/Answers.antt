-- The events that come are kept behind the earlier ones.
use Rattle.std.proofs.Common.{refl}
use Rattle.px_document.proofs.Coming.{come_on, fault_on, stopped_by_doc}
use Rattle.px_document.proofs.document.Document.take.Goals as goal

pub returns-in-Ok-clause-come : goal.returns-in-Ok-clause-come
returns-in-Ok-clause-come c = λ bytes h. record {
  read = come_on c.args.self.now.reader c.feed.new.self c.args.self.now.events.items c.feed.new.out.items c.args.piece.now bytes c.in-Ok.ensures.reads h.read;
}

pub returns-in-Err-clause-fault : goal.returns-in-Err-clause-fault
returns-in-Err-clause-fault c = λ bytes fault h e.
    fault_on c.args.self.now.reader c.args.self.now.events.items c.args.piece.now bytes c.in-Err.fault fault c.in-Err.ensures.fault
    (stopped_by_doc _ c.in-Err.fault c.from.result fault refl c.from.ensures e) h.read
