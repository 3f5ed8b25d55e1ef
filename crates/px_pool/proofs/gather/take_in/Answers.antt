use Rattle.std.proofs.Common.{◌≡◌, refl, subst, sym, length}
use Rattle.std.specs.Prelude.{IfOk, IsOkAnd}
use Rattle.px_pool.specs.Gathering.{Brought}
use Rattle.px_pool.proofs.Gathers.{takes_in}
use Rattle.px_pool.proofs.gather.take_in.Goals as goal

pub returns-clause-gathered : goal.returns-clause-gathered
returns-clause-gathered c before g =
    let answers = c.in_ok-answers.answers in
    let w = c.args.worker in
    takes_in before c.args.whole.now.hand c.args.slots.now.items w answers.items w.drawer.hand c.join.new.drawer.hand c.place.new.slots.items g
    (subst (λ o. IsOkAnd o (λ a. a.items ≡ answers.items)) (sym c.in_ok-answers.was) refl)
    (subst (λ o. IfOk o (λ a. Brought (length c.args.slots.now.items) a.items w.drawer.hand)) c.in_ok-answers.was c.requires.brought.1)
    c.join.ensures.hand c.place.ensures.long c.place.ensures.placed
