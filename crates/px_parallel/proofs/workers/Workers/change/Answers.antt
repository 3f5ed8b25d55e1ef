-- The line is the reply to what the item asks.
use Rattle.px_parallel.proofs.Replying.{ok_with}
use Rattle.px_parallel.proofs.Answered.{change_answers}
use Rattle.px_parallel.proofs.workers.Workers.change.Goals as goal

pub returns : goal.returns
returns g c = record {
  line = ok_with c.make.result c.make.ensures.led c.make.ensures.line (λ line led answered. change_answers g.N.HubName.passes c.args.item c.args.passes.now c.make.new.passes line led answered);
}
