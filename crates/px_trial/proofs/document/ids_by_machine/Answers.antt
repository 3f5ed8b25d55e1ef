-- The machine has taken the events of a tree.
use Rattle.std.proofs.Common.{List, subst}
use Rattle.px_reader.specs.declared.event.Event.{Event}
use Rattle.px_machine.specs.Machines.{HasRun}
use Rattle.px_trial.proofs.document.ids_by_machine.Goals as goal

pub finish-requires : goal.finish-requires
finish-requires c =
    let ready = c.requires.ready in
    let tree = c.requires.tree in
    let P : List Event → Type 0 = λ es. HasRun c.take_all.new.machine ready.0 es in
    record { whole = (ready.0, tree.0, subst P tree.1 (c.in_ok-take_all.ensures.ok ready.0 ready.1)) }
