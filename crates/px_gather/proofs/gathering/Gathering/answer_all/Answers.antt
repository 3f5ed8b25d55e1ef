-- Their lines are said, and none waits.
use Rattle.std.proofs.Common.{refl}
use Rattle.px_gather.proofs.Answering.{says_all, says_all_cut}
use Rattle.px_gather.proofs.gathering.Gathering.answer_all.Goals as goal

pub returns-in-Ok-clause-answers : goal.returns-in-Ok-clause-answers
returns-in-Ok-clause-answers g c =
    let old = c.args.self.now in
    says_all c.args.lines.now old (record old { documents = c.clear.new.self; size = 0; outgoing = c.say_all.new.outgoing }) (g.K.Sink.held c.args.sink.now)
    (g.K.Sink.held c.say_all.new.sink) c.clear.ensures.items refl (c.in-Ok.ensures {u = tt}).says

pub returns-in-Err-clause-answers : goal.returns-in-Err-clause-answers
returns-in-Err-clause-answers g c =
    let old = c.args.self.now in
    says_all_cut c.args.lines.now c.in-Err.status old (record old { outgoing = c.say_all.new.outgoing }) (g.K.Sink.held c.args.sink.now)
    (g.K.Sink.held c.say_all.new.sink) (c.in-Err.ensures {u = tt}).says
