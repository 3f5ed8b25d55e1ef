use Rattle.std.proofs.lemmas.Result.{IfOk-weaker}
use Rattle.px_call.proofs.Readings.{operand_grew, looked_trans, are_read}
use Rattle.px_call.proofs.solving.solve.Goals as goal

pub read-requires-2-clause-operand : goal.read-requires-2-clause-operand
read-requires-2-clause-operand g c = (
  c.requires.operands.1,
  operand_grew g.L.Law.right c.args.shared.now.shape c.args.seat.now.view c.read.new.seat.view c.read.ensures.looked.grew c.args.b.now c.requires.operands.1 c.requires.operands.2.second,
)

pub answer-requires : goal.answer-requires
answer-requires g c = record {
  operands = (
    c.requires.operands.0,
    c.requires.operands.1,
    are_read g.L.Law.right c.args.shared.now.shape c.args.compiled.now.states c.args.seat.now.view c.read.new.seat.view c.read.ensures.looked.grew c.args.op c.args.a.now c.args.b.now c.in_ok-first.first c.in_ok-second.second c.in_ok-first.ensures.set c.in_ok-second.ensures.set
        c.requires.operands.0 c.requires.operands.1 c.requires.operands.2,
  );
}

pub returns-in_err-second-clause-looked : goal.returns-in_err-second-clause-looked
returns-in_err-second-clause-looked g c = looked_trans g.L.Law.right c.args.shared.now.shape c.args.seat.now.view c.read.new.seat.view c.read-2.new.seat.view c.read.ensures.looked c.read-2.ensures.looked

pub returns-clause-looked : goal.returns-clause-looked
returns-clause-looked g c = looked_trans g.L.Law.right c.args.shared.now.shape c.args.seat.now.view c.read.new.seat.view c.read-2.new.seat.view c.read.ensures.looked c.read-2.ensures.looked

pub returns-clause-answer : goal.returns-clause-answer
returns-clause-answer g c = IfOk-weaker c.answer.result _ _
    (λ set is x y h. is x y
    (are_read g.L.Law.right c.args.shared.now.shape c.args.compiled.now.states c.args.seat.now.view c.read.new.seat.view c.read.ensures.looked.grew c.args.op c.args.a.now c.args.b.now c.in_ok-first.first c.in_ok-second.second c.in_ok-first.ensures.set c.in_ok-second.ensures.set x y h))
    c.answer.ensures.answer
