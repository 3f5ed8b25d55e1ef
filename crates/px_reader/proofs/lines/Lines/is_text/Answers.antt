-- Each line of text is text.
use Rattle.px_reader.proofs.Buffered.{taken_piece}
use Rattle.px_reader.proofs.lines.Lines.is_text.Goals as goal

pub returns : goal.returns
returns c = λ t end low high e.
    let old = c.args.self.now in
    (taken_piece old.bytes.items old.at end old.whole old.is_text (record { ordered = old.ordered; within = old.within; ended = old.ended; begun = old.begun; text = old.text }) low high e).line_text t
