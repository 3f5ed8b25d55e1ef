-- The line is judged behind the others, and its events come behind theirs.
use Rattle.std.proofs.Common.{◌≡◌, length, ◌∙◌, arith}
use Rattle.std.proofs.lemmas.Result.{err_from_is_err_and}
use Rattle.px_reader.proofs.Recording.{refuses_big, taken_line, barred_line}
use Rattle.px_reader.proofs.recorder.take_line.Goals as goal

pub returns-then-line-at-clause-fault : goal.returns-then-line-at-clause-fault
returns-then-line-at-clause-fault c =
    let at : c.len-at.result ≡ length c.args.bytes.now.items = omega arith in
    let small = c.requires.records.small in
    refuses_big c.args.scanner.now c.args.bytes.now.items c.args.line.now c.args.events.now c.requires.records (omega arith)

pub returns-in_err-told-clause-fault : goal.returns-in_err-told-clause-fault
returns-in_err-told-clause-fault c =
    let at : c.len-at.result ≡ length c.args.bytes.now.items = omega arith in
    let small = c.requires.records.small in
    let answer = err_from_is_err_and c.from_residual-in_err-told.result c.from_residual-in_err-told.ensures.1 in
    rw (answer.1, answer.2)
    (barred_line c.args.scanner.now c.judge.new.scanner c.args.bytes.now.items c.args.line.now c.deref.result.now c.len-at.result c.args.events.now c.in_err-told.field-0.0 c.requires.records (omega arith)
    (c.deref.ensures.value ∙ c.in_ok-extend_from_slice.ensures.items) at c.in_err-told.ensures.judged)

pub returns-clause-records : goal.returns-clause-records
returns-clause-records c =
    let at : c.len-at.result ≡ length c.args.bytes.now.items = omega arith in
    let small = c.requires.records.small in
    let whole = c.in_ok-extend_from_slice.ensures.items in
    taken_line c.args.scanner.now c.judge.new.scanner c.args.bytes.now.items c.args.line.now c.deref.result.now c.deref-2.result.now c.extend_from_slice.new.self.items c.len-at.result c.in_ok-told.told
    c.args.events.now c.record.new.events c.requires.records c.requires.line (omega arith) (c.deref.ensures.value ∙ whole) (c.deref-2.ensures.value ∙ whole) whole at
    c.in_ok-told.ensures.run c.in_ok-told.ensures.value c.in_ok-told.ensures.judged c.in_ok-record.ensures
