use Rattle.px_text.specs.declared.op.Op.TheVariants.{Add}
use Rattle.px_text.specs.Operands.{set_of}
use Rattle.px_runner.proofs.Made.{sets_made}
use Rattle.px_runner.proofs.ops.add.Goals as goal

pub step-requires : goal.step-requires
step-requires g c =
    let r = c.requires in
    (set_of r.0, set_of r.1, record { first = r.2.stands; second = r.3.stands; taken = tt; known = (r.2.states_alone, r.3.states_alone) })

pub returns-clause-ok : goal.returns-clause-ok
returns-clause-ok g c =
    sets_made g.M.Memo.automata g.M.Memo.stands_for g.M.Memo.tells c.args.memo.now c.step.new.self c.step.result c.args.a.now c.args.b.now Add
    (λ x y. tt) (λ x y p q. (p, q)) c.step.ensures.ok
