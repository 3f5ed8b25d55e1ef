use Rattle.std.proofs.Common.{◌≡◌, IfOk, sym, ap, subst}
use Rattle.std.specs.Arc.{arc_value}
use Rattle.px_text.specs.Operands.{Operand, first_is_set}
use Rattle.px_afa.specs.Building.{Automata}
use Rattle.px_afa.specs.Functions.{push}
use Rattle.px_afa.specs.Steps.{answer_of}
use Rattle.px_runner.specs.Operands.{AreOperands}
use Rattle.px_runner.specs.Remembering.{Remembered, StandsFor}
use Rattle.px_runner.proofs.Remembered.{first_there, pushed_answers}
use Rattle.px_runner.proofs.private_memo.PrivateMemo.computed.Goals as goal

pub at-requires : goal.at-requires
at-requires c = record {
  there = first_there (arc_value c.self.inside.compiled).states c.self.inside.sets c.args.op c.args.a.now c.args.b.now c.requires.operands.0 c.requires.operands.1 (ap first_is_set c.in-Pop.is) (subst (λ (memo : Remembered). AreOperands memo.automata.states (StandsFor memo.sets) c.args.op c.args.a.now c.args.b.now c.requires.operands.0 c.requires.operands.1) (sym c.self.view_is) c.requires.operands.2);
}

pub at-requires-in-Push : goal.at-requires-in-Push
at-requires-in-Push c = record {
  there = first_there (arc_value c.self.inside.compiled).states c.self.inside.sets c.args.op c.args.a.now c.args.b.now c.requires.operands.0 c.requires.operands.1 (ap first_is_set c.in-Push.is) (subst (λ (memo : Remembered). AreOperands memo.automata.states (StandsFor memo.sets) c.args.op c.args.a.now c.args.b.now c.requires.operands.0 c.requires.operands.1) (sym c.self.view_is) c.requires.operands.2);
}

pub returns-in-Push : goal.returns-in-Push
returns-in-Push c = record {
  answer = subst (λ (memo : Remembered). IfOk c.push.result (λ set. (x y : Operand) → AreOperands memo.automata.states (StandsFor memo.sets) c.args.op c.args.a.now c.args.b.now x y →
      set ≡ answer_of memo.automata.states c.args.op x y)) c.self.view_is
      (pushed_answers (arc_value c.self.inside.compiled).states c.self.inside.sets c.args.a.now c.args.b.now c.at-in-Push.result.now c.plain-in-Push.result
      c.at-in-Push.ensures.set c.plain-in-Push.ensures.plain c.args.op c.in-Push.is c.push.result
      (subst (λ (a : Automata). IfOk c.push.result (λ inside. inside ≡ push a.states c.at-in-Push.result.now c.plain-in-Push.result)) c.deref.ensures c.push.ensures.pushed));
}
