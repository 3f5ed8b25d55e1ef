use Rattle.std.proofs.Common.{◌≡◌, Some, IfSome, slice_get, sym, ◌∙◌, ap, subst, arith, nat_eq}
use Rattle.std.specs.HashMap as hash
use Rattle.std.specs.Arc.{arc_value}
use Rattle.px_text.specs.Operands.{Operand}
use Rattle.px_afa.specs.Steps.{answer_of}
use Rattle.px_runner.specs.Operands.{AreOperands}
use Rattle.px_runner.specs.Remembering.{Remembered, StandsFor}
use Rattle.px_runner.proofs.Remembered.{known_answers}
use Rattle.px_runner.proofs.private_memo.PrivateMemo.known.Goals as goal

pub returns : goal.returns
returns c = record {
  known = subst (λ (memo : Remembered). IfSome c.copied.result (λ n. (x y : Operand) → AreOperands memo.automata.states (StandsFor memo.sets) c.args.op c.args.a.now c.args.b.now x y →
      slice_get memo.sets n ≡ Some (answer_of memo.automata.states c.args.op x y))) c.self.view_is
      (known_answers (arc_value c.self.inside.compiled).states c.self.inside.sets c.self.inside.facts c.args.op c.args.a.now c.args.b.now c.in_ok-a.a c.in_ok-b.b
      c.self.invariant.1 (sym c.in_ok-a.ensures.number) (sym c.in_ok-b.ensures.number) (omega arith) (omega arith)
      c.copied.result (c.copied.ensures ∙ (c.get.ensures.value ∙ ap (λ k. hash.get nat_eq c.self.inside.facts k) c.key_of.ensures.key)));
}
