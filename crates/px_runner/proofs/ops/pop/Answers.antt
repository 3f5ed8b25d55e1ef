use Rattle.std.proofs.Common.{refl}
use Rattle.px_text.specs.declared.op.Op.TheVariants.{Pop}
use Rattle.px_text.specs.Operands.{index, set_of}
use Rattle.px_runner.proofs.Made.{label_made}
use Rattle.px_runner.proofs.ops.pop.Goals as goal

pub step-requires : goal.step-requires
step-requires g c =
    let r = c.requires.set in
    (set_of r.0, index c.args.label, record { first = r.1.stands; second = refl; taken = tt; known = (r.1.states_alone, c.requires.label) })

pub returns-clause-ok : goal.returns-clause-ok
returns-clause-ok g c =
    label_made g.M.Memo.automata g.M.Memo.stands_for g.M.Memo.tells c.args.memo.now c.step.new.self c.step.result c.args.set.now c.args.label Pop
    (λ x. tt) (λ x h. (h, c.requires.label)) c.step.ensures.ok
