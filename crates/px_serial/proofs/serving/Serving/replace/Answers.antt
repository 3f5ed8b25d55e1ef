-- The tiers are told of the change, and its line is said.
use Rattle.std.proofs.Common.{refl, ap}
use Rattle.px_feed.specs.Items.{Replacing}
use Rattle.px_lines.specs.Standing.{streams}
use Rattle.px_serial.proofs.FeedLines.{line_of_replace}
use Rattle.px_serial.proofs.Noting.{same_answers, change_kept_up}
use Rattle.px_serial.proofs.serving.Serving.replace.Goals as goal

pub returns-clause-serves : goal.returns-clause-serves
returns-clause-serves g c = λ first least h.
    let old = c.args.self.now in
    let after = c.replace-line.new.journal in
    let new = record old { journal = after; tiers = c.noted-line.new.tiers } in
    let answers = same_answers c.replace-line.result c.noted-line.result (Replacing c.as_slice.result.now c.as_slice-2.result.now) old.journal.changes after.changes c.noted-line.ensures.same c.replace-line.ensures in
    let now = streams (g.S.Source.left c.args.source.now) (g.K.Sink.held c.args.sink.now) (g.S.Source.faults c.args.source.now) in
    c.reply.ensures.replies first least (line_of_replace c.args.name c.args.text c.as_slice.result.now c.as_slice-2.result.now c.noted-line.result old new first now least refl refl c.as_slice.ensures.same c.as_slice-2.ensures.same answers h)

pub returns-clause-keeps_up : goal.returns-clause-keeps_up
returns-clause-keeps_up g c =
    let old = c.args.self.now in
    let after = c.replace-line.new.journal in
    let item = Replacing c.as_slice.result.now c.as_slice-2.result.now in
    let answers = same_answers c.replace-line.result c.noted-line.result item old.journal.changes after.changes c.noted-line.ensures.same c.replace-line.ensures in
    change_kept_up c.noted-line.result item c.reply.result old.tiers c.noted-line.new.tiers old.journal.changes after.changes c.reply.new.self c.reply.ensures.spoken answers
    c.noted-line.ensures.stand c.requires.keeps_up c.reply.ensures.tiers (ap (λ j. j.changes) c.reply.ensures.journal)
