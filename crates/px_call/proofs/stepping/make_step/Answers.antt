use Rattle.std.proofs.lemmas.Result.{IfOk-weaker}
use Rattle.px_afa.specs.Steps.{step}
use Rattle.px_rule.specs.Table.{bank_in, version_in}
use Rattle.px_rule.proofs.Lasting.{grew_trans}
use Rattle.px_call.proofs.Readings.{there, asked_of, operands_grew, program_grew}
use Rattle.px_call.proofs.Fillings.{read_step, made_step, works_then}
use Rattle.px_call.specs.Making.{IsFilled}
use Rattle.px_rule.specs.Kept.{Sound}
use Rattle.px_call.proofs.stepping.make_step.Goals as goal

pub returns-in-Found-clause-makes : goal.returns-in-Found-clause-makes
returns-in-Found-clause-makes g c x y h =
    let v = c.args.seat.now.view in
    let z = c.args.shared.now.shape in
    read_step g.L.Law.right z (bank_in v.stay.place) (version_in v.stay.place) v c.find.new.seat.view c.find.ensures.grew c.args.op c.args.numbers.0 c.args.numbers.1 c.in-Found.number (step c.args.compiled.now.states c.args.op x y)
    c.find.ensures.touched.0 c.find.ensures.wrote_none
    (asked_of g.L.Law.right z g.L.ProgramLaw.automata_of g.met.L.ProgramLaw.answers_are_right v c.args.compiled.now c.requires.program c.args.op c.args.a.now c.args.b.now c.args.numbers.0 c.args.numbers.1 x y h c.requires.numbers.0 c.requires.numbers.1 c.requires.small.0 c.requires.small.1)
    c.in-Found.ensures.answer

pub fill-requires-clause-program : goal.fill-requires-clause-program
fill-requires-clause-program g c = program_grew g.L.ProgramLaw.automata_of c.args.seat.now.view c.find.new.seat.view c.find.ensures.grew c.args.compiled.now c.requires.program

pub fill-requires-clause-operands : goal.fill-requires-clause-operands
fill-requires-clause-operands g c = (
  c.requires.operands.0,
  c.requires.operands.1,
  operands_grew g.L.Law.right c.args.shared.now.shape c.args.compiled.now.states c.args.seat.now.view c.find.new.seat.view c.find.ensures.grew c.args.op c.args.a.now c.args.b.now c.requires.operands.0 c.requires.operands.1 c.requires.operands.2,
)

pub returns-in-Absent-clause-makes : goal.returns-in-Absent-clause-makes
returns-in-Absent-clause-makes g c =
    let v = c.args.seat.now.view in
    let u = c.find.new.seat.view in
    let w = c.fill.new.seat.view in
    let z = c.args.shared.now.shape in
    let grew = c.find.ensures.grew in
    let grew' = c.fill.ensures.works.grew in
    IfOk-weaker c.fill.result _ _
    (λ o fills x y h.
    let s = step c.args.compiled.now.states c.args.op x y in
    made_step g.L.Law.right z (bank_in v.stay.place) (version_in v.stay.place) (λ op a b p q log. g.L.Law.one_answer log op a b p q) v u w grew grew'
    (there (λ k n. Sound g.L.Law.right z k n u) v u grew c.find.ensures.sound) (there (λ k n. Sound g.L.Law.right z k n w) v w (grew_trans v u w grew grew') c.fill.ensures.works.sound)
    c.find.ensures.touched.0 c.find.ensures.wrote_none c.args.op c.args.numbers.0 c.args.numbers.1 s
    (asked_of g.L.Law.right z g.L.ProgramLaw.automata_of g.met.L.ProgramLaw.answers_are_right v c.args.compiled.now c.requires.program c.args.op c.args.a.now c.args.b.now c.args.numbers.0 c.args.numbers.1 x y h c.requires.numbers.0 c.requires.numbers.1 c.requires.small.0 c.requires.small.1)
    c.in-Absent.ensures.answer o
    (there (λ k n. IsFilled g.L.Law.right z k n u w s c.args.numbers.0 c.args.numbers.1 o) v u grew (fills x y (operands_grew g.L.Law.right z c.args.compiled.now.states v u grew c.args.op c.args.a.now c.args.b.now x y h))))
    c.fill.ensures.fills

pub returns-in-Found-clause-works : goal.returns-in-Found-clause-works
returns-in-Found-clause-works g c = record { grew = c.find.ensures.grew; sound = c.find.ensures.sound }

pub returns-in-Absent-clause-works : goal.returns-in-Absent-clause-works
returns-in-Absent-clause-works g c = works_then g.L.Law.right c.args.shared.now.shape c.args.seat.now.view c.find.new.seat.view c.fill.new.seat.view c.find.ensures.grew c.fill.ensures.works
