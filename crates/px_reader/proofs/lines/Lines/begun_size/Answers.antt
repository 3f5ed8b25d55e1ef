-- What is kept of a line and what is lost.
use Rattle.std.proofs.Common.{◌≡◌, length, arith}
use Rattle.std.proofs.lemmas.List.{length-drop}
use Rattle.px_reader.specs.Buffers.{kept}
use Rattle.px_reader.proofs.Buffered.{keeps_size}
use Rattle.px_reader.proofs.Pushed.{unread_begun}
use Rattle.px_reader.proofs.lines.Lines.begun_size.Goals as goal

pub returns-clause-all : goal.returns-clause-all
returns-clause-all c = λ unread none u.
    let old = c.args.self.now in
    let size = keeps_size (kept old) unread old.lost (unread_begun old unread none u) in
    let n = length-drop old.whole old.bytes.items in
    let l : c.len.result ≡ length old.bytes.items = omega arith in
    omega arith
