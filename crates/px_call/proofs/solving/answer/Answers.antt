use Rattle.px_call.proofs.Pushed.{pushed_read}
use Rattle.px_call.proofs.solving.answer.Goals as goal

pub returns-in-Push : goal.returns-in-Push
returns-in-Push c = record {
  answer = pushed_read c.args.compiled.now.states c.args.first.now c.args.second.now c.args.b.now c.plain-in-Push.result c.plain-in-Push.ensures.plain c.args.op c.in-Push.is c.push.result c.push.ensures.pushed;
}
