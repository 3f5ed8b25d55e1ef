use Rattle.std.proofs.Common.{ap, ◌∙◌, sym, arith, length, get_or}
use Rattle.px_workload.proofs.Following.{id_of, none-replaced, one-replaced}
use Rattle.px_workload.proofs.places.replace.Goals as goal

pub returns-in-Some-clause-kept : goal.returns-in-Some-clause-kept
returns-in-Some-clause-kept c =
    let read = c.deref.ensures.value in
    let at = c.in-Some.at in
    one-replaced c.args.filters.now.items at c.args.id c.args.filter c.requires.order (omega (arith, c.in-Some.ensures.within, ap length read))
    (λ d. ap (λ l. id_of (get_or l at d)) (sym read) ∙ c.in-Some.ensures.found d)

pub returns-in-None-clause-kept : goal.returns-in-None-clause-kept
returns-in-None-clause-kept c =
    let read = c.deref.ensures.value in
    none-replaced c.args.filters.now.items c.args.id c.args.filter (rw read at c.in-None.ensures.none)
