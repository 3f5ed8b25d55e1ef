use Rattle.std.proofs.Common.{refl}
use Rattle.px_text.specs.declared.op.Op.TheVariants.{TextClass}
use Rattle.px_text.specs.Operands.{index}
use Rattle.px_runner.proofs.Made.{class_made}
use Rattle.px_runner.proofs.ops.value_text.Goals as goal

pub step-requires : goal.step-requires
step-requires g c = (index 0, index c.args.class, record { first = refl; second = refl; taken = refl; known = c.requires })

pub returns-clause-ok : goal.returns-clause-ok
returns-clause-ok g c =
    class_made g.M.Memo.automata g.M.Memo.stands_for g.M.Memo.tells c.args.memo.now c.step.new.self c.step.result c.args.class TextClass refl c.requires c.step.ensures.ok
