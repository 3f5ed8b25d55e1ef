-- The first and the others are still all passes, and there are as many others.
use Rattle.px_parallel.proofs.Replying.{led_of}
use Rattle.px_parallel.proofs.workers.Workers.make.Goals as goal

pub returns-clause-led : goal.returns-clause-led
returns-clause-led g c =
    led_of g.N.HubName.passes c.args.passes.now c.in-Some.first.now c.in-Some.others.now (c.in-Some.ensures {u = tt}).cases.0 c.make_by.result c.make_by.new.first c.make_by.new.others c.requires.led c.make_by.auto.others
    c.make_by.ensures.alone
