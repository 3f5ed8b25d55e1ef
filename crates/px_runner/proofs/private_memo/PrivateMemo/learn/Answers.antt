use Rattle.std.proofs.Common.{sym, ◌∙◌, ap, subst}
use Rattle.std.specs.Arc.{arc_value}
use Rattle.px_afa.specs.Steps.{answer_of}
use Rattle.px_runner.specs.Operands.{AreOperands}
use Rattle.px_runner.specs.Remembering.{Remembered, StandsFor}
use Rattle.px_runner.proofs.Remembered.{firsts_on, facts_on, operands_on}
use Rattle.px_runner.proofs.private_memo.PrivateMemo.learn.Goals as goal

pub invariant_of-self : goal.invariant_of-self
invariant_of-self c = (firsts_on (arc_value c.self.inside.compiled) c.self.inside.sets c.keep.new.self c.self.inside.firsts c.keep.ensures.grows c.self.invariant.0, facts_on (arc_value c.self.inside.compiled).states c.self.inside.sets c.keep.new.self c.self.inside.facts c.keep.ensures.grows c.self.invariant.1)

pub invariant_of-self-2 : goal.invariant_of-self-2
invariant_of-self-2 c = (firsts_on (arc_value c.self.inside.compiled) c.self.inside.sets c.keep.new.self c.self.inside.firsts c.keep.ensures.grows c.self.invariant.0, facts_on (arc_value c.self.inside.compiled).states c.self.inside.sets c.keep.new.self c.self.inside.facts c.keep.ensures.grows c.self.invariant.1)

pub remember-requires : goal.remember-requires
remember-requires c =
    let given : AreOperands (arc_value c.self.inside.compiled).states (StandsFor c.self.inside.sets) c.args.op c.args.a.now c.args.b.now c.requires.operands.0 c.requires.operands.1
    = subst (λ (memo : Remembered). AreOperands memo.automata.states (StandsFor memo.sets) c.args.op c.args.a.now c.args.b.now c.requires.operands.0 c.requires.operands.1) (sym c.self.view_is) c.requires.operands.2 in
    record {
      fact = (
        c.requires.operands.0,
        c.requires.operands.1,
        operands_on (arc_value c.self.inside.compiled).states c.self.inside.sets c.keep.new.self c.args.op c.args.a.now c.args.b.now _ _ c.keep.ensures.grows given,
        subst (λ set. StandsFor c.keep.new.self c.in_ok-answer.answer set)
            (c.in_ok-set.ensures.answer c.requires.operands.0 c.requires.operands.1 c.requires.operands.2
            ∙ ap (λ (memo : Remembered). answer_of memo.automata.states c.args.op c.requires.operands.0 c.requires.operands.1) (sym c.self.view_is)) c.in_ok-answer.ensures.stands,
      );
    }
