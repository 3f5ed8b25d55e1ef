-- What the reader says at its end, and the machine behind it.
use Rattle.std.proofs.Common.{refl, subst}
use Rattle.px_reader.specs.declared.fault.ReaderFault.{ReaderFault}
use Rattle.px_reader.specs.Reading.{IsLastFault}
use Rattle.xpush.proofs.Reading.{gives_ids, gives_fault, last_taken}
use Rattle.xpush.proofs.Stopping.{stopped_by_doc}
use Rattle.xpush.proofs.document.finish.Goals as goal

pub ids_behind-requires : goal.ids_behind-requires
ids_behind-requires c =
    let run = c.requires.run in record {
      last = last_taken c.args.machine.now run.0 run.1 run.2 _ _ _ c.as_slice.ensures.value c.clear.ensures.items run.4 (c.in-Ok.ensures.tree run.1 run.2 run.3);
    }

pub returns-in-Ok-ids_behind-clause-ids : goal.returns-in-Ok-ids_behind-clause-ids
returns-in-Ok-ids_behind-clause-ids c = λ program least left now given r spent run.
    gives_ids c.args.machine.now program least left now c.args.reader given _ _ _ c.in-Ok-ids_behind.ids
    c.as_slice.ensures.value r spent c.clear.ensures.items (c.in-Ok.ensures.tree r.bytes given r.read) run c.in-Ok-ids_behind.ensures.ids

pub returns-clause-fault : goal.returns-clause-fault
returns-clause-fault c = λ least left now given r spent fault e.
    let P : ReaderFault → Type 0 = λ one. IsLastFault r.bytes one in
    let last = c.in-Err.ensures.fault r.bytes given r.read in
    gives_fault least left now _ given fault r spent (subst P (stopped_by_doc _ c.in-Err.fault c.from.result fault refl c.from.ensures e) last)
