use Rattle.px_delta.proofs.Fronts.{reply_told}
use Rattle.px_delta.proofs.filtering.filter_read.Goals as goal

pub reply_beside-requires-clause-reply : goal.reply_beside-requires-clause-reply
reply_beside-requires-clause-reply g c =
    λ root h. reply_told c.verdicts_are_one.ensures.one g.N.HubName.table.shape c.args.base.now c.filter_read.new.pass c.args.doc.now c.in-Ok.reply c.in-Ok.ensures root h
