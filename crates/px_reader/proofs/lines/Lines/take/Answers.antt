-- What is behind the line is whole and text as before.
use Rattle.std.proofs.Common.{◌++◌, ◌-◌, take, drop, ap, ◌∙◌, refl, append_assoc}
use Rattle.px_reader.specs.Buffers.{piece}
use Rattle.px_reader.specs.Scanned.{line_to}
use Rattle.px_reader.proofs.Buffered.{taken_piece}
use Rattle.px_reader.proofs.lines.Lines.take.Goals as goal

pub invariant_of-self : goal.invariant_of-self
invariant_of-self c =
    let old = c.args.self.now in
    let k = taken_piece old.bytes.items old.at c.args.end old.whole old.is_text (record { ordered = old.ordered; within = old.within; ended = old.ended; begun = old.begun; text = old.text })
    c.requires.within.0 c.requires.within.1 c.requires.line in
    record { ordered = k.cut.ordered; within = k.cut.within; counted = old.counted; ended = k.cut.ended; begun = k.cut.begun; text = k.cut.text }

pub returns-clause-unread : goal.returns-clause-unread
returns-clause-unread c = λ unread u.
    let old = c.args.self.now in
    let k = taken_piece old.bytes.items old.at c.args.end old.whole old.is_text (record { ordered = old.ordered; within = old.within; ended = old.ended; begun = old.begun; text = old.text })
    c.requires.within.0 c.requires.within.1 c.requires.line in
    let rest = take (old.whole - c.args.end) (drop c.args.end old.bytes.items) in
    let line = line_to (piece old) old.at c.args.end in
    (rest ++ u.begun, u.unread_is ∙ ap (λ bs. bs ++ u.begun) k.ready ∙ append_assoc line rest u.begun, record { begun = u.begun; unread_is = refl; keeps = u.keeps })
