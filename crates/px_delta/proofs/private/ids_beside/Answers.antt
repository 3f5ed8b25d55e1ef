-- The machine is that of the filters.
use Rattle.std.proofs.Common.{List, [], ◌∙◌, subst}
use Rattle.px_reader.specs.declared.event.Event.{Event}
use Rattle.px_xpath.specs.Subscribed.{subscriptions}
use Rattle.px_afa.specs.Building.{Automata, automata}
use Rattle.px_machine.specs.Machines.{HasRun}
use Rattle.px_delta.proofs.Holding.{finds}
use Rattle.px_delta.proofs.private.ids_beside.Goals as goal

pub finish-requires : goal.finish-requires
finish-requires c =
    let P : Automata → Type 0 = λ program. HasRun c.in_ok-machine.machine program [] in
    let run = subst P (c.in_ok-new.ensures.ok ∙ c.in_ok-program.ensures.program) c.in_ok-machine.ensures.new in
    let tree = c.requires.tree in
    let Q : List Event → Type 0 = λ es. HasRun c.take_all.new.machine (automata (subscriptions c.args.filters.now)) es in
    record { whole = (automata (subscriptions c.args.filters.now), tree.0, subst Q tree.1 (c.in_ok-take_all.ensures.ok (automata (subscriptions c.args.filters.now)) [] run)) }

pub returns : goal.returns
returns c =
    let P : Automata → Type 0 = λ program. HasRun c.in_ok-machine.machine program [] in
    let run = subst P (c.in_ok-new.ensures.ok ∙ c.in_ok-program.ensures.program) c.in_ok-machine.ensures.new in
    record { ids = finds c.args.filters.now c.in_ok-machine.machine c.take_all.new.machine c.args.events.now c.finish.result run c.in_ok-take_all.ensures.ok c.finish.ensures.accepted }
