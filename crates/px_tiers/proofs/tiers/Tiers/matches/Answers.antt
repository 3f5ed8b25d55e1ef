-- What waits is built, and then the tiers find what matches.
use Rattle.px_workload.specs.Changes.{history}
use Rattle.px_xpath.specs.Histories.{live}
use Rattle.px_tiers.proofs.Settling.{few_remembered, settled_matches, settled_stand}
use Rattle.px_tiers.proofs.tiers.Tiers.matches.Goals as goal

pub ids_of-requires : goal.ids_of-requires
ids_of-requires c = record { settled = (live (history c.args.journal.now.changes), c.in_ok-catch_up.ensures.settled); whole = c.requires.whole }

pub returns-clause-ids : goal.returns-clause-ids
returns-clause-ids c =
    let h = history c.args.journal.now.changes in
    settled_matches c.catch_up.new.self (live h) c.args.events.now c.ids_of.result c.ids_of.ensures.ids c.in_ok-catch_up.ensures.settled
    (c.live_filters_are_in_order.ensures.rising h c.version-version.ensures.legal)

pub returns-clause-stand : goal.returns-clause-stand
returns-clause-stand c = settled_stand c.catch_up.new.self c.ids_of.new.self (live (history c.args.journal.now.changes)) c.ids_of.result c.ids_of.ensures.stand c.in_ok-catch_up.ensures.settled

pub returns-clause-few : goal.returns-clause-few
returns-clause-few c =
    let all = live (history c.args.journal.now.changes) in
    let stand = settled_stand c.catch_up.new.self c.ids_of.new.self all c.ids_of.result c.ids_of.ensures.stand c.in_ok-catch_up.ensures.settled in
    few_remembered c.ids_of.new.self all c.ids_of.result stand c.ids_of.ensures.within
