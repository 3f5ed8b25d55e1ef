-- The line for the document is said.
use Rattle.std.proofs.Common.{refl, ap}
use Rattle.px_lines.specs.Standing.{streams}
use Rattle.px_serial.proofs.FeedLines.{line_of_document}
use Rattle.px_serial.proofs.Noting.{kept_up}
use Rattle.px_serial.proofs.serving.Serving.filter.Goals as goal

pub returns-clause-serves : goal.returns-clause-serves
returns-clause-serves g c = λ first least h.
    let old = c.args.self.now in
    let new = record old { tiers = c.line_of_document-line.new.tiers } in
    let now = streams (g.S.Source.left c.args.source.now) (g.K.Sink.held c.args.sink.now) (g.S.Source.faults c.args.source.now) in
    c.reply.ensures.replies first least
    (line_of_document c.args.doc c.line_of_document-line.result old new first now least refl refl refl c.line_of_document-line.ensures.line h)

pub returns-clause-keeps_up : goal.returns-clause-keeps_up
returns-clause-keeps_up g c =
    kept_up c.line_of_document-line.result c.reply.result c.line_of_document-line.new.tiers c.args.self.now.journal.changes c.reply.new.self c.reply.ensures.spoken
    c.line_of_document-line.ensures.stand c.reply.ensures.tiers (ap (λ j. j.changes) c.reply.ensures.journal)
