use Rattle.std.proofs.Common.{ap, ◌∙◌, sym, arith, length, get_or}
use Rattle.px_xpath.specs.Subscribed.{subscriptions}
use Rattle.px_workload.proofs.Following.{id_of, none-dropped, one-dropped}
use Rattle.px_workload.proofs.places.remove.Goals as goal

pub returns-in-Some-clause-kept : goal.returns-in-Some-clause-kept
returns-in-Some-clause-kept c =
    let read = c.deref.ensures.value in
    let at = c.in-Some.at in
    ap subscriptions c.remove.ensures.items
    ∙ one-dropped c.args.filters.now.items at c.args.id c.requires.order (omega (arith, c.in-Some.ensures.within, ap length read))
    (λ d. ap (λ l. id_of (get_or l at d)) (sym read) ∙ c.in-Some.ensures.found d)

pub returns-in-None-clause-kept : goal.returns-in-None-clause-kept
returns-in-None-clause-kept c =
    let read = c.deref.ensures.value in
    none-dropped c.args.filters.now.items c.args.id (rw read at c.in-None.ensures.none)
