-- The line that has begun goes on, or the document is too big.
use Rattle.std.proofs.Common.{◌++◌, ◌+◌, ◌<◌, ◌≤◌, length, sym, subst, arith}
use Rattle.px_reader.specs.Reading.{IsFirstFault}
use Rattle.px_reader.specs.Progressing.{state_apart}
use Rattle.px_reader.proofs.Readings.{read_part, read_part_big}
use Rattle.px_reader.proofs.judge.Judge.begin_line.Goals as goal

pub returns-in_default-clause-fault : goal.returns-in_default-clause-fault
returns-in_default-clause-fault c = λ bytes given h.
    let old = c.args.self.now in
    let big : 16_777_216 < old.extent.size + length c.args.part.now = c.in_default.ensures in
    subst (λ fault. IsFirstFault (bytes ++ c.args.part.now) fault) (sym c.fault.ensures.same)
    (read_part_big (state_apart old.scanner) old.kept.items old.extent.size old.extent.lines bytes given c.args.part.now h.reading c.requires big)

pub returns-clause-reads : goal.returns-clause-reads
returns-clause-reads c = λ bytes given h.
    let old = c.args.self.now in
    let fits : old.extent.size + length c.args.part.now ≤ 16_777_216 = let e = c.in-Some.ensures.1 in let b = c.in-Some.extent.bounded in omega arith in
    record {
      reading = rw (c.in-Some.ensures.0, c.in-Some.ensures.1)
          (read_part (state_apart old.scanner) old.kept.items old.extent.size old.extent.lines bytes given c.args.part.now h.reading c.requires fits c.keep.new.kept.items c.in_ok-keep.ensures);
      no_fault = h.no_fault;
    }
