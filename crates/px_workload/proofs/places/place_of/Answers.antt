use Rattle.std.proofs.Common.{le_refl}
use Rattle.px_workload.proofs.Following.{none-at}
use Rattle.px_workload.proofs.places.place_of.Goals as goal

pub returns-in_default-clause-none : goal.returns-in_default-clause-none
returns-in_default-clause-none c =
    let there = c.in-Some.ensures.lookup in
    none-at c.args.filters.now c.count_below-at.result c.args.id c.in-Some.numbered.now c.requires.order there.3.0 (there.4 (le_refl _)) c.if-numbered-id.false
    c.count_below-at.ensures.lower c.count_below-at.ensures.others
