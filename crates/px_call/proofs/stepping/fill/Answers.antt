use Rattle.std.proofs.Common.{subst}
use Rattle.px_afa.specs.Steps.{step}
use Rattle.px_rule.specs.Table.{bank_in, version_in}
use Rattle.px_rule.proofs.Lasting.{grew_trans}
use Rattle.px_rule.specs.Kept.{Tells}
use Rattle.px_text.specs.Operands.{set_of}
use Rattle.std.proofs.Common.{true}
use Rattle.px_call.proofs.Readings.{asked_of, operands_grew, program_grew}
use Rattle.px_call.proofs.Fillings.{full_fills, put_fills, works_on, works_then}
use Rattle.px_call.proofs.stepping.fill.Goals as goal

pub returns-in-Full-clause-fills : goal.returns-in-Full-clause-fills
returns-in-Full-clause-fills g c x y h =
    full_fills g.L.Law.right c.args.shared.now.shape c.args.seat.now.view c.solve.new.seat.view c.intern.new.seat.view c.solve.ensures.looked c.intern.ensures.grew c.in_ok-set.set c.intern.ensures.wrote c.in-Full.word c.in-Full.ensures.answer
    (step c.args.compiled.now.states c.args.op x y) (c.in_ok-set.ensures.answer x y h)

pub put_step-requires-clause-step : goal.put_step-requires-clause-step
put_step-requires-clause-step g c =
    let v = c.args.seat.now.view in
    let t = c.intern.new.seat.view in
    let z = c.args.shared.now.shape in
    let grew = grew_trans v c.solve.new.seat.view t c.solve.ensures.looked.grew c.intern.ensures.grew in
    let x = c.requires.operands.0 in
    let y = c.requires.operands.1 in
    let asked = asked_of g.L.Law.right z g.L.ProgramLaw.automata_of g.met.L.ProgramLaw.answers_are_right t c.args.compiled.now (program_grew g.L.ProgramLaw.automata_of v t grew c.args.compiled.now c.requires.program) c.args.op c.args.a.now c.args.b.now c.args.numbers.0 c.args.numbers.1 x y
    (operands_grew g.L.Law.right z c.args.compiled.now.states v t grew c.args.op c.args.a.now c.args.b.now x y c.requires.operands.2) c.requires.numbers.0 c.requires.numbers.1 c.requires.small.0 c.requires.small.1 in (
      step c.args.compiled.now.states c.args.op x y,
      asked,
      subst (λ l. Tells g.L.Law.right z (bank_in t.stay.place) (version_in t.stay.place) t true c.in-Number.number (set_of l)) (c.in_ok-set.ensures.answer x y c.requires.operands.2) c.in-Number.ensures.answer.1,
    )

pub returns-in-Number-clause-fills : goal.returns-in-Number-clause-fills
returns-in-Number-clause-fills g c x y h =
    let v = c.args.seat.now.view in
    let t = c.intern.new.seat.view in
    let z = c.args.shared.now.shape in
    let grew = grew_trans v c.solve.new.seat.view t c.solve.ensures.looked.grew c.intern.ensures.grew in
    let same = c.in_ok-set.ensures.answer x y h in
    let asked = asked_of g.L.Law.right z g.L.ProgramLaw.automata_of g.met.L.ProgramLaw.answers_are_right t c.args.compiled.now (program_grew g.L.ProgramLaw.automata_of v t grew c.args.compiled.now c.requires.program) c.args.op c.args.a.now c.args.b.now c.args.numbers.0 c.args.numbers.1 x y
    (operands_grew g.L.Law.right z c.args.compiled.now.states v t grew c.args.op c.args.a.now c.args.b.now x y h) c.requires.numbers.0 c.requires.numbers.1 c.requires.small.0 c.requires.small.1 in
    put_fills g.L.Law.right z v c.solve.new.seat.view t c.solve.ensures.looked c.intern.ensures.grew c.in_ok-set.set c.intern.ensures.wrote c.put_step.new.seat.view c.put_step.ensures.works.grew
    (step c.args.compiled.now.states c.args.op x y) same c.args.numbers.0 c.args.numbers.1 c.put_step.result
    (c.put_step.ensures.puts (step c.args.compiled.now.states c.args.op x y) asked
    (subst (λ l. Tells g.L.Law.right z (bank_in t.stay.place) (version_in t.stay.place) t true c.in-Number.number (set_of l)) same c.in-Number.ensures.answer.1))

pub returns-in_err-set-clause-works : goal.returns-in_err-set-clause-works
returns-in_err-set-clause-works g c = record { grew = c.solve.ensures.looked.grew; sound = c.solve.ensures.looked.sound }

pub returns-in-Full-clause-works : goal.returns-in-Full-clause-works
returns-in-Full-clause-works g c = works_on g.L.Law.right c.args.shared.now.shape c.args.seat.now.view c.solve.new.seat.view c.intern.new.seat.view c.solve.ensures.looked c.intern.ensures.grew c.in_ok-set.set c.intern.ensures.wrote c.intern.ensures.sound

pub returns-in-Number-clause-works : goal.returns-in-Number-clause-works
returns-in-Number-clause-works g c =
    works_then g.L.Law.right c.args.shared.now.shape c.args.seat.now.view c.intern.new.seat.view c.put_step.new.seat.view (grew_trans c.args.seat.now.view c.solve.new.seat.view c.intern.new.seat.view c.solve.ensures.looked.grew c.intern.ensures.grew) c.put_step.ensures.works
