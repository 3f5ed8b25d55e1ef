-- The last line, where no line feed ends it.
use Rattle.std.proofs.Common.{◌≡◌, ◌+◌, ◌<◌, [], List, length, sym, ap, ◌∙◌, subst, append-nil, Ok, Err, arith, vec_len}
use Rattle.px_reader.specs.declared.event.Event.{Event}
use Rattle.px_reader.specs.Judged.{Judged}
use Rattle.px_reader.specs.Lines.{lines_of}
use Rattle.px_reader.specs.Reading.{IsLastFault}
use Rattle.px_reader.specs.Progressing.{state_apart}
use Rattle.px_reader.specs.States.{Judging}
use Rattle.px_reader.proofs.Feeding.{count_none, count_some}
use Rattle.px_reader.proofs.Readings.{last_line_ok, last_line_bad, no_last_line}
use Rattle.px_reader.specs.Bringing.{GivesUpTo}
use Rattle.px_reader.specs.Progressing.{progress}
use Rattle.px_reader.proofs.Stopping.{judging_appends, last_stops, stands_at}
use Rattle.px_reader.proofs.judge.Judge.take_last.Goals as goal

pub returns-then-is_empty-clause-reads : goal.returns-then-is_empty-clause-reads
returns-then-is_empty-clause-reads c = λ bytes given h.
    let old = c.args.self.now in
    let none : length old.kept.items ≡ 0 = let l = count_none (vec_len old.kept) c.is_empty.result c.is_empty.ensures c.if-is_empty.true in omega arith in
    let all = no_last_line (state_apart old.scanner) old.kept.items old.extent.size old.extent.lines bytes given h.reading none in
    ([], sym (append-nil c.args.out.now.items), subst (λ (evs : List Event). Judged (lines_of bytes) (state_apart old.scanner) evs) (sym (append-nil given)) all.0, all.1 ∙ sym c.lines.ensures.value)

pub returns-in-Err-clause-fault : goal.returns-in-Err-clause-fault
returns-in-Err-clause-fault c = λ bytes given h.
    let old = c.args.self.now in
    let some : 0 < length old.kept.items = let l = count_some (vec_len old.kept) c.is_empty.result c.is_empty.ensures c.if-is_empty.false in omega arith in
    let judged : Judging (state_apart old.scanner) c.as_slice.result.now (Err c.in-Err.fault) (state_apart c.judge_line.new.scanner) c.args.out.now.items c.judge_line.new.out.items = c.in-Err.ensures.judged in
    let here = subst (λ line. Judging (state_apart old.scanner) line (Err c.in-Err.fault) (state_apart c.judge_line.new.scanner) c.args.out.now.items c.judge_line.new.out.items) c.as_slice.ensures.value judged in
    subst (λ fault. IsLastFault bytes fault) (sym c.fault.ensures.same)
    (last_line_bad (state_apart old.scanner) old.kept.items old.extent.size old.extent.lines bytes given c.in-Err.fault (state_apart c.judge_line.new.scanner)
    c.args.out.now.items c.judge_line.new.out.items h.reading some here).0

pub returns-clause-reads : goal.returns-clause-reads
returns-clause-reads c = λ bytes given h.
    let old = c.args.self.now in
    let some : 0 < length old.kept.items = let l = count_some (vec_len old.kept) c.is_empty.result c.is_empty.ensures c.if-is_empty.false in omega arith in
    let judged : Judging (state_apart old.scanner) c.as_slice.result.now (Ok tt) (state_apart c.judge_line.new.scanner) c.args.out.now.items c.judge_line.new.out.items = c.in_default.ensures.judged in
    let here = subst (λ line. Judging (state_apart old.scanner) line (Ok tt) (state_apart c.judge_line.new.scanner) c.args.out.now.items c.judge_line.new.out.items) c.as_slice.ensures.value judged in
    let (more, behind, all, count) = last_line_ok (state_apart old.scanner) old.kept.items old.extent.size old.extent.lines bytes given tt (state_apart c.judge_line.new.scanner)
    c.args.out.now.items c.judge_line.new.out.items h.reading some here in
    (more, behind, all, count ∙ ap (λ n. n + 1) (sym c.lines-2.ensures.value))

pub returns-in-Err-clause-stops : goal.returns-in-Err-clause-stops
returns-in-Err-clause-stops c = λ bytes given h.
    let old = progress c.args.self.now in
    subst (λ fault. GivesUpTo fault bytes given c.args.out.now.items c.judge_line.new.out.items) (sym c.fault.ensures.same)
    (last_stops old bytes given c.args.out.now.items c.judge_line.new.out.items c.as_slice.result.now c.in-Err.fault h c.in-Err.ensures.judged.0 (stands_at (old.lines + 1) c.in-Err.fault) c.in-Err.ensures.judged.1)

pub returns-clause-appends : goal.returns-clause-appends
returns-clause-appends c =
    judging_appends (state_apart c.args.self.now.scanner) (state_apart c.judge_line.new.scanner) c.as_slice.result.now c.judge_line.result c.args.out.now.items c.judge_line.new.out.items c.judge_line.ensures.judged
