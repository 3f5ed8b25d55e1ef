-- The machine takes the events, and finds what it accepts of their tree.
use Rattle.std.proofs.Common.{List, [], refl, subst, sym}
use Rattle.px_reader.specs.declared.event.Event.{Event}
use Rattle.px_afa.specs.Building.{automata}
use Rattle.px_machine.specs.Machines.{HasRun}
use Rattle.px_tiers.proofs.Matching.{tier_finds, tier_goes_on}
use Rattle.px_tiers.proofs.tier.Tier.matches.Goals as goal

pub take_all-requires : goal.take_all-requires
take_all-requires c = let stands = c.requires.stands in record { begun = (automata stands.0, [], stands.1.run) }

pub finish-requires : goal.finish-requires
finish-requires c =
    let stands = c.requires.stands in
    let whole = c.requires.whole in
    let P : List Event → Type 0 = λ es. HasRun c.take_all.new.machine (automata stands.0) es in
    record { whole = (automata stands.0, whole.0, subst P (sym whole.1) (c.in_ok-take_all.ensures.ok (automata stands.0) [] stands.1.run)) }

pub returns-clause-ids : goal.returns-clause-ids
returns-clause-ids c = tier_finds c.args.self.now c.take_all.new.machine c.args.events.now c.finish.result c.in_ok-take_all.ensures.ok c.finish.ensures.accepted

pub returns-clause-stands : goal.returns-clause-stands
returns-clause-stands c =
    let old = c.args.self.now in
    tier_goes_on old (record old { machine = c.finish.new.self }) c.take_all.new.machine c.finish.result refl c.in_ok-take_all.ensures.same c.finish.ensures.ready
