use Rattle.px_afa.specs.Steps.{step}
use Rattle.px_call.proofs.Fillings.{number_beside, set_beside, works_on}
use Rattle.px_call.proofs.stepping.make_beside.Goals as goal

pub returns-in-Number-clause-makes : goal.returns-in-Number-clause-makes
returns-in-Number-clause-makes g c x y h =
    number_beside g.L.Law.right c.args.shared.now.shape c.args.seat.now.view c.solve.new.seat.view c.intern.new.seat.view c.solve.ensures.looked c.intern.ensures.grew c.in_ok-set.set c.intern.ensures.wrote c.in-Number.number c.in-Number.ensures.answer.0 c.in-Number.ensures.answer.1
    (step c.args.compiled.now.states c.args.op x y) (c.in_ok-set.ensures.answer x y h)

pub returns-in-Full-clause-makes : goal.returns-in-Full-clause-makes
returns-in-Full-clause-makes g c x y h =
    set_beside g.L.Law.right c.args.shared.now.shape c.args.seat.now.view c.solve.new.seat.view c.intern.new.seat.view c.solve.ensures.looked c.intern.ensures.grew c.in_ok-set.set c.intern.ensures.wrote c.in-Full.word c.in-Full.ensures.answer
    (step c.args.compiled.now.states c.args.op x y) (c.in_ok-set.ensures.answer x y h)

pub returns-in_err-set-clause-works : goal.returns-in_err-set-clause-works
returns-in_err-set-clause-works g c = record { grew = c.solve.ensures.looked.grew; sound = c.solve.ensures.looked.sound }

pub returns-in-Full-clause-works : goal.returns-in-Full-clause-works
returns-in-Full-clause-works g c = works_on g.L.Law.right c.args.shared.now.shape c.args.seat.now.view c.solve.new.seat.view c.intern.new.seat.view c.solve.ensures.looked c.intern.ensures.grew c.in_ok-set.set c.intern.ensures.wrote c.intern.ensures.sound

pub returns-in-Number-clause-works : goal.returns-in-Number-clause-works
returns-in-Number-clause-works g c = works_on g.L.Law.right c.args.shared.now.shape c.args.seat.now.view c.solve.new.seat.view c.intern.new.seat.view c.solve.ensures.looked c.intern.ensures.grew c.in_ok-set.set c.intern.ensures.wrote c.intern.ensures.sound
