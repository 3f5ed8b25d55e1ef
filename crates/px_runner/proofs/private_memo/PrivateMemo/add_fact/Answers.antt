use Rattle.std.proofs.Common.{Some, sym, subst, ◌∙◌, ap, cond, nat_eq, arith}
use Rattle.std.specs.HashMap as hash
use Rattle.std.specs.Arc.{arc_value}
use Rattle.px_runner.specs.Remembering.{Remembered, IsFact}
use Rattle.px_runner.proofs.Remembered.{facts_more}
use Rattle.px_runner.proofs.private_memo.PrivateMemo.add_fact.Goals as goal

pub invariant_of-self-2 : goal.invariant_of-self-2
invariant_of-self-2 c = (
  c.self.invariant.0,
  facts_more (arc_value c.self.inside.compiled).states c.self.inside.sets c.self.inside.facts c.insert.new.self c.args.op c.args.a c.args.b c.args.answer (omega arith) (omega arith)
      (subst (λ (memo : Remembered). IsFact memo.automata.states memo.sets c.args.op c.args.a c.args.b c.args.answer) (sym c.self.view_is) c.requires.fact) c.self.invariant.1
      (λ q. c.in_ok-insert.ensures.updates.0 q ∙ ap (λ k. cond (nat_eq k q) (Some c.args.answer) (hash.get nat_eq c.self.inside.facts q)) c.key_of.ensures.key),
)
