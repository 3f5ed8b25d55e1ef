-- The line is said.
use Rattle.std.proofs.Common.{refl}
use Rattle.px_gather.proofs.Answering.{says_item}
use Rattle.px_gather.proofs.gathering.Gathering.answer.Goals as goal

pub returns-clause-answers : goal.returns-clause-answers
returns-clause-answers g c =
    let old = c.args.self.now in
    says_item c.args.line.now c.say.result old (record old { outgoing = c.say.new.self }) (g.K.Sink.held c.args.sink.now) (g.K.Sink.held c.say.new.sink) refl refl
    c.say.ensures.says
