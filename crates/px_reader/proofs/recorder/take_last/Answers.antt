-- What no line feed ends is the last line.
use Rattle.std.proofs.Common.{length}
use Rattle.std.proofs.lemmas.Result.{IfErr-weaker}
use Rattle.px_reader.specs.Records.{Refuses, RefusesEnd}
use Rattle.px_reader.proofs.Feeding.{count_some}
use Rattle.px_reader.proofs.LineCuts.{lines_last}
use Rattle.px_reader.proofs.Recording.{refuses_last}
use Rattle.px_reader.proofs.recorder.take_last.Goals as goal

pub take_line-requires-clause-line : goal.take_line-requires-clause-line
take_line-requires-clause-line c =
    lines_last c.args.bytes.now.items c.args.line.now c.requires.whole c.requires.no_feed (count_some (length c.args.line.now) c.is_empty.result c.is_empty.ensures c.if-is_empty.false)

pub returns-clause-fault : goal.returns-clause-fault
returns-clause-fault c =
    let same = lines_last c.args.bytes.now.items c.args.line.now c.requires.whole c.requires.no_feed (count_some (length c.args.line.now) c.is_empty.result c.is_empty.ensures c.if-is_empty.false) in
    IfErr-weaker c.take_line.result (λ fault. Refuses c.args.bytes.now.items c.args.line.now fault) (λ fault. RefusesEnd c.args.bytes.now.items c.args.line.now fault)
    (λ fault on. refuses_last c.args.bytes.now.items c.args.line.now fault same on) c.take_line.ensures.fault
