use Rattle.px_delta.proofs.Fronts.{events_told}
use Rattle.px_delta.proofs.filtering.reply_beside.Goals as goal

pub returns-in-Ok-clause-reply : goal.returns-in-Ok-clause-reply
returns-in-Ok-clause-reply g c = λ root h. c.in-Ok.ensures.reply root (events_told c.verdicts_are_one.ensures.one c.args.doc.now c.events.result.now root c.events.ensures.tree h) (c.requires.reply root h)
