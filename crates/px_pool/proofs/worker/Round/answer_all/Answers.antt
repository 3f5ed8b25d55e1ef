use Rattle.std.proofs.Common.{◌≤◌, arith}
use Rattle.px_pool.specs.declared.worker.Answer.{Answer}
use Rattle.px_pool.proofs.Turns.{leaves, at_least, goes_round}
use Rattle.px_pool.proofs.worker.Round.answer_all.Goals as goal

pub returns-in_err-reply-clause-left : goal.returns-in_err-reply-clause-left
returns-in_err-reply-clause-left g c =
    leaves g.N.HubName.table.shape c.args.self.now.docs.now c.args.self.now.draws.now c.args.pass.now c.args.drawer.now c.loop-least.answers.items c.loop-least.pass c.loop-least.drawer c.answer.new.pass c.draw-number.new.drawer
    c.loop-least.invariant.0 c.draw-number.ensures.table c.answer.ensures.stays

pub returns-in_err-push-clause-left : goal.returns-in_err-push-clause-left
returns-in_err-push-clause-left g c =
    leaves g.N.HubName.table.shape c.args.self.now.docs.now c.args.self.now.draws.now c.args.pass.now c.args.drawer.now c.loop-least.answers.items c.loop-least.pass c.loop-least.drawer c.answer.new.pass c.draw-number.new.drawer
    c.loop-least.invariant.0 c.draw-number.ensures.table c.answer.ensures.stays

pub loop-least-smaller : goal.loop-least-smaller
loop-least-smaller g c =
    let low : c.loop-least.least ≤ c.draw-number.result =
    at_least g.N.HubName.table.shape c.args.self.now.docs.now c.args.self.now.draws.now c.args.pass.now c.args.drawer.now c.loop-least.answers.items c.loop-least.pass c.loop-least.drawer c.args.self.now.draws.now.quota c.draw-number.result c.loop-least.least c.draw-number.new.drawer
    c.loop-least.invariant.0 c.loop-least.invariant.1 c.draw-number.ensures.drew in
    let below = c.if-number-self.false in omega arith

pub loop-least-preserved : goal.loop-least-preserved
loop-least-preserved g c =
    let one : Answer = record { number = c.draw-number.result; reply = c.in_ok-reply.reply } in
    goes_round g.N.HubName.table.shape c.args.self.now.docs.now c.args.self.now.draws.now.quota c.args.self.now.draws.now c.args.pass.now c.args.drawer.now c.loop-least.answers.items c.loop-least.pass c.loop-least.drawer one c.answer.new.pass c.draw-number.new.drawer c.push.new.self.items
    c.args.self.now.limit c.loop-least.invariant.0 (let below = c.if-number-self.false in omega arith) c.draw-number.ensures.table c.draw-number.ensures.drew c.answer.ensures.stays c.in_ok-reply.ensures.reply c.in_ok-push.ensures.items
