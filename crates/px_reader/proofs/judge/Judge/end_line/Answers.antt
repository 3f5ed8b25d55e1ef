-- A line more, or its fault.
use Rattle.std.proofs.Common.{◌++◌, ◌+◌, ◌<◌, ◌≤◌, [], length, sym, ap, ◌∙◌, subst, arith}
use Rattle.px_reader.specs.declared.extent.Extent.{Extent}
use Rattle.px_reader.specs.Reading.{IsFirstFault, fault_at}
use Rattle.px_reader.specs.Progressing.{state_apart}
use Rattle.px_reader.proofs.Feeding.{reading_as}
use Rattle.px_reader.proofs.Readings.{read_line_ok, read_line_bad, read_line_big}
use Rattle.px_reader.proofs.judge.Judge.end_line.Goals as goal

pub returns-in_default-clause-fault : goal.returns-in_default-clause-fault
returns-in_default-clause-fault c = λ bytes given h.
    let old = c.args.self.now in
    let big : 16_777_216 < old.extent.size + length c.args.part.now = c.in_default.ensures in
    subst (λ fault. IsFirstFault (bytes ++ c.args.part.now) fault) (sym c.fault.ensures.same)
    (read_line_big (state_apart old.scanner) old.kept.items old.extent.size old.extent.lines bytes given c.args.part.now h.reading c.requires big)

pub returns-in-Err-clause-fault : goal.returns-in-Err-clause-fault
returns-in-Err-clause-fault c = λ bytes given h.
    let old = c.args.self.now in
    let fits : old.extent.size + length c.args.part.now ≤ 16_777_216 = let e = c.in-Some.ensures.1 in let b = c.in-Some.extent.bounded in omega arith in
    let answer = c.fault-in-Err.ensures.same ∙ ap (λ (extent : Extent). fault_at (extent.lines + 1) c.in-Err.fault) c.in-Err.ensures.extent in
    subst (λ fault. IsFirstFault (bytes ++ c.args.part.now) fault) (sym answer)
    (read_line_bad (state_apart old.scanner) old.kept.items old.extent.size old.extent.lines bytes given c.args.part.now c.in-Err.fault (state_apart c.take_line.new.self.scanner)
    c.args.out.now.items c.take_line.new.out.items h.reading c.requires fits c.in-Err.ensures.judged).0

pub returns-clause-reads : goal.returns-clause-reads
returns-clause-reads c = λ bytes given h.
    let old = c.args.self.now in
    let fits : old.extent.size + length c.args.part.now ≤ 16_777_216 = let e = c.in-Some.ensures.1 in let b = c.in-Some.extent.bounded in omega arith in
    let took = c.in_default-take_line.ensures in
    let (more, behind, reading) = read_line_ok (state_apart old.scanner) old.kept.items old.extent.size old.extent.lines bytes given c.args.part.now tt (state_apart c.take_line.new.self.scanner)
    c.args.out.now.items c.take_line.new.out.items h.reading c.requires fits took.judged in (
      more,
      behind,
      record {
        reading = reading_as (state_apart c.take_line.new.self.scanner) [] c.take_line.new.self.kept.items (old.extent.size + length c.args.part.now) c.in-Some.extent.size (old.extent.lines + 1) c.in-Some.extent.lines
            (bytes ++ c.args.part.now) (given ++ more) reading took.kept c.in-Some.ensures.1 c.in-Some.ensures.0;
        no_fault = took.fault ∙ h.no_fault;
      },
    )
