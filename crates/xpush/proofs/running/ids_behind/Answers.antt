-- The last events, and then the ids.
use Rattle.std.proofs.Common.{List, subst, sym}
use Rattle.px_reader.specs.declared.event.Event.{Event}
use Rattle.px_machine.specs.Machines.{HasRun}
use Rattle.xpush.proofs.Taking.{behind_ids}
use Rattle.xpush.proofs.running.ids_behind.Goals as goal

pub take_all-requires : goal.take_all-requires
take_all-requires c = let last = c.requires.last in record { begun = (last.0, last.1, last.3) }

pub finish-requires : goal.finish-requires
finish-requires c =
    let last = c.requires.last in
    let P : List Event → Type 0 = λ es. HasRun c.take_all.new.machine last.0 es in
    record { whole = (last.0, last.2, subst P (sym last.4) (c.in_ok-take_all.ensures.ok last.0 last.1 last.3)) }

pub returns-clause-ids : goal.returns-clause-ids
returns-clause-ids c = behind_ids c.args.machine.now c.take_all.new.machine c.args.events.now c.finish.result c.in_ok-take_all.ensures.ok c.finish.ensures.accepted
