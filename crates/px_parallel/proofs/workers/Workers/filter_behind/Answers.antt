-- The first is as before, and so is what the others have seen and made.
use Rattle.px_parallel.proofs.Replying.{ok_then, led_behind, seen_behind}
use Rattle.px_parallel.proofs.workers.Workers.filter_behind.Goals as goal

pub returns-clause-led : goal.returns-clause-led
returns-clause-led g c =
    led_behind g.N.HubName.passes c.args.passes.now c.in-Some._first.now c.in-Some.workers.now (c.in-Some.ensures {u = tt}).cases.0 c.filter_by.new.workers c.requires.led c.filter_by.ensures.stay

pub returns-clause-replies : goal.returns-clause-replies
returns-clause-replies g c =
    let behind = seen_behind g.N.HubName.passes c.args.passes.now c.in-Some._first.now c.in-Some.workers.now (c.in-Some.ensures {u = tt}).cases.0 in
    ok_then c.filter_by.result c.filter_by.ensures.replies (λ replies are seen all. are seen (behind seen all))
